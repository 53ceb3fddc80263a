use Rattle.std.proofs.Common.{◌≡◌, drop}
use Rattle.machine_table.specs.Reading.{slot_names}
use Rattle.text_core.specs.Names.{is_among}
use Rattle.machine_table.proofs.uses.slot_of.Given as goal

abbrev pub invariant-loop-number : goal.invariant-loop-number
invariant-loop-number l = is_among (slot_names l.slots) l.name ≡ is_among (slot_names (drop l.number l.slots)) l.name
