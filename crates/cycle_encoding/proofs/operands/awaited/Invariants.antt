use Rattle.std.proofs.Common.{◌≡◌, map}
use Rattle.std.specs.List.{range_with_len}
use Rattle.cycle_encoding.specs.Coming.{start_needs}
use Rattle.cycle_encoding.proofs.operands.awaited.Given as goal

abbrev pub invariant-loop-row : goal.invariant-loop-row
invariant-loop-row l = l.awaited.items ≡ map (start_needs l.facts l.allocation) (range_with_len 0 l.row)
