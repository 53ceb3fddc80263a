use Rattle.std.proofs.Common.{◌∙◌}
use Rattle.cycle_encoding.specs.Shapes.{numbered}
use Rattle.cycle_encoding.proofs.Rows.{slot_added, slot_vars, slot_room}
use Rattle.cycle_encoding.proofs.slots.add_slots.Goals as goal

pub add_slot-requires-clause-vars : goal.add_slot-requires-clause-vars
add_slot-requires-clause-vars c = slot_vars c.args.cnf.now c.loop-slot.cnf c.loop-slot.slot c.args.slots c.args.k c.args.launches.now c.loop-slot.invariant c.loop-slot-test.true c.requires.vars

pub add_slot-requires-clause-room : goal.add_slot-requires-clause-room
add_slot-requires-clause-room c = slot_room c.args.cnf.now c.loop-slot.cnf c.loop-slot.slot c.args.slots c.args.k c.args.launches.now c.loop-slot.invariant c.loop-slot-test.true c.counters_count.ensures.size c.requires.room

pub loop-slot-preserved : goal.loop-slot-preserved
loop-slot-preserved c = c.in_ok-add_slot.ensures ∙ slot_added c.args.cnf.now c.loop-slot.cnf c.loop-slot.slot c.args.k (numbered 0 c.args.launches.now) c.loop-slot.invariant
