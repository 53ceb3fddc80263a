use Rattle.std.proofs.Common.{◌≡◌, take, map, flat_map}
use Rattle.goal_meaning.specs.Views.{axiom_view}
use Rattle.axiom_library.specs.Families.{axioms_of}
use Rattle.axiom_texts.proofs.texts.library_text.Given as goal

abbrev pub invariant-loop-family : goal.invariant-loop-family
invariant-loop-family l = map axiom_view l.all.items ≡ flat_map axioms_of (take l.family-index l.families)
