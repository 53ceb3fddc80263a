use Rattle.slot_capacity.proofs.LimitLists.{first-more}
use Rattle.slot_capacity.proofs.limits.push_group.Goals as goal

pub loop-e-preserved : goal.loop-e-preserved
loop-e-preserved c =
    first-more c.args.group.now c.args.members.now c.loop-e.e c.args.limits.now.items c.loop-e.limits.items
    c.push_from.new.limits.items c.loop-e.invariant c.in_ok-push_from.ensures
