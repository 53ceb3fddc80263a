use Rattle.std.proofs.Common.{◌≡◌}
use Rattle.cycle_encoding.specs.Shapes.{numbered}
use Rattle.cycle_encoding.specs.Families.{slot_row}
use Rattle.cycle_encoding.proofs.Rows.{with_counters}
use Rattle.cycle_encoding.proofs.slots.add_slot.Given as goal

abbrev pub invariant-loop-cycle : goal.invariant-loop-cycle
invariant-loop-cycle l = l.cnf ≡ with_counters l.initial.cnf (slot_row l.slot l.cycle (numbered 0 l.launches))
