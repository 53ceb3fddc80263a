use Rattle.std.proofs.Common.{take}
use Rattle.std.specs.List.{AllZip}
use Rattle.saturation.specs.Asking.{AreUnmetOfKind}
use Rattle.saturation.proofs.searching.search_kinds.Given as goal

abbrev pub invariant-loop-kind : goal.invariant-loop-kind
invariant-loop-kind l = AllZip (AreUnmetOfKind l.graph) (take l.kind-index l.kinds) l.found.items
