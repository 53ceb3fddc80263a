use Rattle.std.proofs.Common.{◌≡◌}
use Rattle.cycle_encoding.specs.Shapes.{numbered}
use Rattle.cycle_encoding.specs.Families.{slot_rows}
use Rattle.cycle_encoding.proofs.Rows.{with_counters}
use Rattle.cycle_encoding.proofs.slots.add_slots.Given as goal

abbrev pub invariant-loop-slot : goal.invariant-loop-slot
invariant-loop-slot l = l.cnf ≡ with_counters l.initial.cnf (slot_rows l.slot l.k (numbered 0 l.launches))
