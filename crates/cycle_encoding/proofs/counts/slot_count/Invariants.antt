use Rattle.std.proofs.Common.{◌≡◌, ◌≤◌}
use Rattle.std.specs.List.{count_by, range_with_len}
use Rattle.cycle_encoding.specs.Facts.{may_use}
use Rattle.cycle_encoding.proofs.counts.slot_count.Given as goal

abbrev pub invariant-loop-slot : goal.invariant-loop-slot
invariant-loop-slot l = record { is : l.count ≡ count_by (may_use l.table l.instr) (range_with_len 0 l.slot); small : l.count ≤ l.slot }
