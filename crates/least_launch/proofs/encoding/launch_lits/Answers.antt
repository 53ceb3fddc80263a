use Rattle.least_launch.proofs.Launched.{next_lit}
use Rattle.least_launch.proofs.encoding.launch_lits.Goals as goal

pub loop-place-preserved : goal.loop-place-preserved
loop-place-preserved c =
    next_lit c.args.launches.now c.loop-place.place c.loop-place.lits.items _ c.loop-place-test.true
    c.loop-place.invariant
    c.in_ok-push.ensures.items
