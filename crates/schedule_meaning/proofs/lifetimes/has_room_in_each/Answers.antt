use Rattle.std.proofs.Common.{◌≤◌, length, below_more, arith}
use Rattle.std.specs.Prelude.{count_by}
use Rattle.schedule_meaning.specs.Lifetimes.{holds}
use Rattle.schedule_meaning.specs.declared.schedules.Allocation.TheVariants.{Live}
use Rattle.schedule_meaning.proofs.lifetimes.has_room_in_each.Goals as goal

pub loop-cycle-preserved : goal.loop-cycle-preserved
loop-cycle-preserved c =
    below_more
    (λ t. count_by (holds c.args.graph.now Live c.args.list.now t) c.args.list.now ≤ length c.args.graph.now.pool)
    c.loop-cycle.cycle c.loop-cycle.invariant
    (omega (arith, c.held_at.ensures, c.len.ensures, c.if-held_at-len.false))
