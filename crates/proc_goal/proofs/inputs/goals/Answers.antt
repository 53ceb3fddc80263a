use Rattle.std.proofs.Common.{ap, arith, length}
use Rattle.proc_goal.proofs.ProcGoals.{all_goals}
use Rattle.proc_goal.proofs.inputs.goals.Goals as goal

pub returns : goal.returns
returns c =
    let count = ap length c.as_slice-block-items.ensures in
    all_goals c.args.proc.now c.loop-block.block-index _ (omega (arith, c.loop-block-test.false, count)) c.loop-block.invariant
