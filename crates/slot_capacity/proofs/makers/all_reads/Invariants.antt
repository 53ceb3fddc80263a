use Rattle.std.proofs.Common.{◌≡◌, map}
use Rattle.std.specs.List.{range_with_len}
use Rattle.slot_capacity.specs.Makers.{reads_of}
use Rattle.slot_capacity.proofs.makers.all_reads.Given as goal

abbrev pub invariant-loop-row : goal.invariant-loop-row
invariant-loop-row l = l.reads.items ≡ map (reads_of l.facts) (range_with_len 0 l.row)
