use Rattle.std.proofs.Common.{◌≡◌, filter, is_some, take}
use Rattle.slab.specs.Slab.{get}
use Rattle.egraph.proofs.graph.without_dropped.Given as goal

abbrev pub invariant-loop-place : goal.invariant-loop-place
invariant-loop-place g l = l.kept.items ≡ filter (λ place. is_some (get l.rows place)) (take l.place-index l.place-items)
