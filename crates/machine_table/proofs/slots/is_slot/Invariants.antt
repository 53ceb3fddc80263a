use Rattle.std.proofs.Common.{◌≡◌, drop}
use Rattle.machine_table.specs.Reading.{slot_names}
use Rattle.text_core.specs.Names.{is_among}
use Rattle.machine_table.proofs.slots.is_slot.Given as goal

abbrev pub invariant-loop-slot : goal.invariant-loop-slot
invariant-loop-slot l = is_among (slot_names l.slots) l.name ≡ is_among (slot_names (drop l.slot-index l.slots)) l.name
