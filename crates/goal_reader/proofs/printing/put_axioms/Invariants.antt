use Rattle.std.proofs.Common.{◌≡◌, ◌∷◌, ◌++◌, [], take}
use Rattle.std.specs.List.{flat_map}
use Rattle.forms.specs.Printing.{plain_text}
use Rattle.goal_meaning.specs.InputForms.{axiom_plain}
use Rattle.goal_meaning.specs.Views.{axiom_view}
use Rattle.goal_meaning.specs.declared.goals.Axiom.{Axiom}
use Rattle.goal_reader.proofs.printing.put_axioms.Given as goal

abbrev pub invariant-loop-one : goal.invariant-loop-one
invariant-loop-one l = l.text.items ≡ l.initial.text.items ++ flat_map (λ x. plain_text ((λ (a : Axiom). axiom_plain l.declared (axiom_view a)) x) ++ 10 ∷ []) (take l.one-index l.axioms)
