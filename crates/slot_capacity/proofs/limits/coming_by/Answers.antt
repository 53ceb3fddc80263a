use Rattle.std.specs.Prelude.{nat_le}
use Rattle.slot_capacity.specs.declared.deadlines.Deadline.{Deadline}
use Rattle.slot_capacity.proofs.Loops.{filter-pushed}
use Rattle.slot_capacity.proofs.limits.coming_by.Goals as goal

pub loop-one-preserved : goal.loop-one-preserved
loop-one-preserved c =
    filter-pushed (λ (x : Deadline). nat_le x.first c.args.cycle) c.args.later.now c.loop-one.one-index _
    c.loop-one-test.true
    c.loop-one.coming.items c.push_if.new.list.items c.loop-one.invariant c.in_ok-push_if.ensures
