use Rattle.std.specs.Prelude.{nat_le}
use Rattle.slot_capacity.specs.declared.deadlines.Deadline.{Deadline}
use Rattle.slot_capacity.proofs.Loops.{filter-pushed}
use Rattle.slot_capacity.proofs.limits.from_cycle.Goals as goal

pub loop-one-preserved : goal.loop-one-preserved
loop-one-preserved c =
    filter-pushed (λ (x : Deadline). nat_le c.args.e x.first) c.args.members.now c.loop-one.one-index _
    c.loop-one-test.true
    c.loop-one.later.items c.push_if.new.list.items c.loop-one.invariant c.in_ok-push_if.ensures
