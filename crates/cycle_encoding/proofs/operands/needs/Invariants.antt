use Rattle.std.proofs.Common.{◌≡◌, map}
use Rattle.std.specs.List.{range_with_len}
use Rattle.cycle_encoding.specs.Lacking.{needs_of}
use Rattle.cycle_encoding.proofs.operands.needs.Given as goal

abbrev pub invariant-loop-row : goal.invariant-loop-row
invariant-loop-row l = l.needs.items ≡ map (needs_of l.there l.facts) (range_with_len 0 l.row)
