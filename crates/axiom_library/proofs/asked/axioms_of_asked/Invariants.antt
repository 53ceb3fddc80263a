use Rattle.std.proofs.Common.{◌≡◌, if◌then◌else◌, [], take, map, flat_map}
use Rattle.goal_meaning.specs.Views.{axiom_view}
use Rattle.axiom_library.specs.Asked.{option_axioms}
use Rattle.axiom_library.specs.Libraries.{has_family}
use Rattle.axiom_library.proofs.asked.axioms_of_asked.Given as goal

abbrev pub invariant-loop-family : goal.invariant-loop-family
invariant-loop-family l = map axiom_view l.all.items
    ≡ flat_map (λ family. if has_family l.library family then option_axioms family else []) (take l.family-index l.families)
