use Rattle.std.proofs.Common.{◌∙◌}
use Rattle.cycle_encoding.proofs.Sorted.{slot_step, at_empty}
use Rattle.cycle_encoding.proofs.slots.slot_lists.Goals as goal

pub loop-index-init : goal.loop-index-init
loop-index-init c = c.in_ok-lists.ensures ∙ at_empty c.args.slot c.args.k

pub loop-index-preserved : goal.loop-index-preserved
loop-index-preserved c = slot_step c.args.launches.now c.loop-index.index _ c.args.k c.loop-index.lists.items c.put_in_slot.new.lists.items c.loop-index-test.true c.args.slot c.loop-index.invariant c.in_ok-put_in_slot.ensures
