use Rattle.std.proofs.Common.{◌≡◌, take, filter}
use Rattle.axiom_library.specs.Asked.{family_of_kind, is_asked}
use Rattle.axiom_library.proofs.asked.kinds_of_asked.Given as goal

abbrev pub invariant-loop-kind : goal.invariant-loop-kind
invariant-loop-kind l = l.asked ≡ filter (λ kind. is_asked l.library (family_of_kind kind)) (take l.kind-index l.kinds)
