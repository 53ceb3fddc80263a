use Rattle.std.proofs.Common.{◌≡◌, ◌++◌}
use Rattle.cycle_encoding.specs.Facts.{destined_slots}
use Rattle.cycle_encoding.proofs.by_destination.push_row.Given as goal

abbrev pub invariant-loop-slot : goal.invariant-loop-slot
invariant-loop-slot l = l.launches.items ≡ l.initial.launches.items ++ destined_slots l.frame.table.now l.instr l.row l.first l.cycles l.tos.items l.slot
