use Rattle.std.proofs.Common.{◌≡◌, ◌+◌, map}
use Rattle.std.specs.List.{range_with_len}
use Rattle.cycle_encoding.specs.Shapes.{positive}
use Rattle.order_encoding.proofs.pool.following.Given as goal

abbrev pub invariant-loop-place : goal.invariant-loop-place
invariant-loop-place l = l.lits.items ≡ map (λ i. positive (l.first + i + 1)) (range_with_len 0 l.place)
