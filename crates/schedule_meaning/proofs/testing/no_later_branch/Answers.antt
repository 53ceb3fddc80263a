use Rattle.std.proofs.Common.{rules, ◌≤◌}
use Rattle.std.specs.Prelude.{IsTrue}
use Rattle.schedule_meaning.specs.Launches.{launches, is_branch}
use Rattle.schedule_meaning.specs.declared.schedules.Launch.{Launch}
use Rattle.schedule_meaning.specs.declared.schedules.To.TheVariants.{Pool}
use Rattle.schedule_meaning.proofs.Loops.{all_more, all_pass}
use Rattle.schedule_meaning.proofs.testing.no_later_branch.Goals as goal

pub loop-other-preserved : goal.loop-other-preserved
loop-other-preserved c k d =
    let P : Launch → Type 0 = λ b. IsTrue (launches c.args.graph.now is_branch b) → b.cycle ≤ c.args.launch.cycle in
    all_more P c.args.list.now c.loop-other.other-index (record { cycle = 0; slot = 0; row = 0; to = Pool }) c.loop-other-test.true c.loop-other.invariant (c.no_later.ensures.0 (search rules)) k d

pub returns : goal.returns
returns c = all_pass (λ b. IsTrue (launches c.args.graph.now is_branch b) → b.cycle ≤ c.args.launch.cycle) c.args.list.now c.loop-other.other-index (search rules) c.loop-other.invariant
