use Rattle.std.proofs.Common.{◌≡◌, if◌then◌else◌, [], take, flat_map}
use Rattle.axiom_library.specs.Asked.{equations_of}
use Rattle.axiom_library.specs.Libraries.{has_family}
use Rattle.axiom_library.proofs.asked.equations_of_asked.Given as goal

abbrev pub invariant-loop-family : goal.invariant-loop-family
invariant-loop-family l = l.all.items
    ≡ flat_map (λ family. if has_family l.library family then equations_of family else []) (take l.family-index l.families)
