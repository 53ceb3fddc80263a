use Rattle.std.proofs.Common.{arith}
use Rattle.goal_reader.proofs.Printed.{all_lines}
use Rattle.goal_meaning.specs.InputForms.{goal_plain}
use Rattle.goal_meaning.specs.Views.{goal_view}
use Rattle.goal_meaning.specs.declared.goals.Goal.{Goal}
use Rattle.goal_reader.proofs.printing.put_goals.Goals as goal

pub returns : goal.returns
returns c = all_lines (λ (a : Goal). goal_plain c.args.declared.now (goal_view a)) c.args.goals.now c.loop-goal.goal-index _ _ (omega (arith, c.loop-goal-test.false)) c.loop-goal.invariant
