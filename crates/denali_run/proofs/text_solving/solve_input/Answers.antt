use Rattle.std.proofs.Common.{◌<◌, ◌+◌, subst, sym, take, map}
use Rattle.std.specs.List.{AllZip}
use Rattle.goal_meaning.specs.Views.{goal_view, input_view}
use Rattle.denali_run.specs.Right.{Right}
use Rattle.denali_run.proofs.AnsweredGoals.{below_goals, one_more_result}
use Rattle.denali_run.proofs.text_solving.solve_input.Goals as goal

pub loop-at-preserved : goal.loop-at-preserved
loop-at-preserved c =
    subst (λ rs. AllZip (λ goal answered. Right (input_view c.args.input.now) goal c.args.settings.now answered)
    (take (c.loop-at.at + 1) (map goal_view c.args.input.now.goals)) rs) (sym c.in_ok-push.ensures.items)
    (one_more_result (λ goal answered. Right (input_view c.args.input.now) goal c.args.settings.now answered)
    (map goal_view c.args.input.now.goals) c.loop-at.results.items c.loop-at.at c.in_ok-solve_by_rules.field-0
    (below_goals c.args.input.now.goals c.loop-at.at (subst (λ n. c.loop-at.at < n) c.len-at-end.ensures c.loop-at-test.true))
    c.loop-at.invariant c.in_ok-solve_by_rules.ensures.right)
