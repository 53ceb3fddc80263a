use Rattle.std.proofs.Common.{map}
use Rattle.goal_meaning.specs.Views.{goal_view, input_view}
use Rattle.cycle_encoding.proofs.Built.{if_ok}
use Rattle.denali_run.proofs.AnsweredGoals.{below_goals}
use Rattle.least_launch.proofs.Solved.{goal_at, may_lessen, with_right}
use Rattle.least_launch.proofs.solving.solve_fewest.Goals as goal

pub with_fewest-requires-clause-can : goal.with_fewest-requires-clause-can
with_fewest-requires-clause-can c =
    let input = input_view c.args.input.now in
    let one = goal_at (map goal_view c.args.input.now.goals) c.args.at
    (below_goals c.args.input.now.goals c.args.at c.requires.at) in
    may_lessen input one.0 c.args.settings.now c.requires.settings c.in_ok-answered.answered
    (c.in_ok-answered.ensures.right one.0 one.1)

pub returns : goal.returns
returns c =
    if_ok _ _ c.with_fewest.result
    (λ p is goal at. with_right (input_view c.args.input.now) goal c.args.settings.now c.in_ok-answered.answered p.0 p.1
    (c.in_ok-answered.ensures.right goal at) is)
    c.with_fewest.ensures
