use Rattle.std.proofs.Common.{◌≡◌, true}
use Rattle.std.specs.List.{filter, list_all, range_with_len}
use Rattle.cycle_encoding.specs.Facts.{may_use}
use Rattle.slot_capacity.specs.Makers.{has}
use Rattle.slot_capacity.proofs.groups.row_belongs.Given as goal

abbrev pub invariant-loop-slot : goal.invariant-loop-slot
invariant-loop-slot l = list_all (has l.group) (filter (may_use l.table l.instr) (range_with_len 0 l.slot)) ≡ true
