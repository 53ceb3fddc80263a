use Rattle.std.proofs.Common.{arith, map}
use Rattle.goal_reader.proofs.Printed.{all_printed}
use Rattle.proc_goal.specs.ProcForms.{block_plain}
use Rattle.proc_goal.specs.Views.{block_view, names_of_blocks}
use Rattle.proc_goal.specs.declared.procs.Block.{Block}
use Rattle.proc_goal.proofs.printing.put_blocks.Goals as goal

pub returns : goal.returns
returns c =
    all_printed (λ (b : Block). block_plain c.args.vars.now (names_of_blocks (map block_view c.args.blocks.now)) (block_view b)) c.args.some.now
    c.loop-block.block-index _ _ (omega (arith, c.loop-block-test.false)) c.loop-block.invariant
