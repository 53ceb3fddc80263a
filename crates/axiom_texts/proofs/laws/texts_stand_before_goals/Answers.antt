use Rattle.std.proofs.Common.{map, flat_map, [], sym}
use Rattle.goal_meaning.specs.InputForms.{axiom_plain, goal_plain}
use Rattle.axiom_library.specs.Families.{axioms_of}
use Rattle.axiom_texts.proofs.Lines.{lines_both}
use Rattle.axiom_texts.proofs.laws.texts_stand_before_goals.Goals as goal

pub returns : goal.returns
returns c = λ families table goals.
    sym (lines_both (map (axiom_plain []) (flat_map axioms_of families)) (map (goal_plain []) goals))
