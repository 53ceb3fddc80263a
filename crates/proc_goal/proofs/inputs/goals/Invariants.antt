use Rattle.std.proofs.Common.{◌≡◌, map, take}
use Rattle.goal_meaning.specs.Views.{goal_view}
use Rattle.proc_goal.specs.Goals.{goal_of_block}
use Rattle.proc_goal.specs.Views.{block_view, proc_view}
use Rattle.proc_goal.specs.declared.procs.Block.{Block}
use Rattle.proc_goal.proofs.inputs.goals.Given as goal

abbrev pub invariant-loop-block : goal.invariant-loop-block
invariant-loop-block l = map goal_view l.goals ≡ map (λ (b : Block). goal_of_block (proc_view l.proc) (block_view b)) (take l.block-index l.proc.blocks)
