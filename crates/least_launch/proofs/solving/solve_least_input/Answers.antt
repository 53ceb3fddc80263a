use Rattle.std.proofs.Common.{◌<◌, ◌+◌, ◌++◌, ◌∷◌, [], List, Option, map, subst, sym, take}
use Rattle.std.specs.List.{AllZip}
use Rattle.goal_meaning.specs.Views.{goal_view, input_view}
use Rattle.denali_run.specs.Right.{Right}
use Rattle.denali_run.specs.declared.results.Answered.{Answered}
use Rattle.denali_run.proofs.AnsweredGoals.{below_goals, one_more_result}
use Rattle.least_launch.specs.LeastAnswers.{IsTailOf}
use Rattle.least_launch.specs.declared.tails.Tail.{Tail}
use Rattle.least_launch.proofs.Solved.{goal_at, said_more}
use Rattle.least_launch.proofs.solving.solve_least_input.Goals as goal

pub loop-at-preserved : goal.loop-at-preserved
loop-at-preserved c =
    let input = input_view c.args.input.now in
    let goals = map goal_view c.args.input.now.goals in
    let lt = below_goals c.args.input.now.goals c.loop-at.at
    (subst (λ n. c.loop-at.at < n) c.len-at-end.ensures c.loop-at-test.true) in
    let one = goal_at goals c.loop-at.at lt in
    record {
      right = subst (λ (rs : List Answered). AllZip
          (λ goal answered. Right (input_view c.args.input.now) goal c.args.settings.now answered)
          (take (c.loop-at.at + 1) (map goal_view c.args.input.now.goals)) rs) (sym c.in_ok-push.ensures.items)
          (one_more_result (λ goal answered. Right (input_view c.args.input.now) goal c.args.settings.now
          answered)
          goals c.loop-at.results.items c.loop-at.at c.in_ok-answered.answered lt c.loop-at.invariant.right
          (λ goal at. (c.in_ok-answered.ensures goal at).0));
      said = subst (λ (rs : List Answered). AllZip
          (IsTailOf c.args.input.now.table c.args.settings.now.allocation c.args.settings.now.conflicts) rs
          c.push-in-loop-at.new.self.items)
          (sym c.in_ok-push.ensures.items)
          (subst (λ (ts : List (Option Tail)). AllZip
          (IsTailOf c.args.input.now.table c.args.settings.now.allocation c.args.settings.now.conflicts)
          (c.loop-at.results.items ++ c.in_ok-answered.answered ∷ []) ts)
          (sym c.in_ok-push-2.ensures.items)
          (said_more (IsTailOf c.args.input.now.table c.args.settings.now.allocation c.args.settings.now.conflicts)
          c.loop-at.results.items c.loop-at.said.items
          c.in_ok-answered.answered c.in_ok-answered.tail c.loop-at.invariant.said
          (c.in_ok-answered.ensures one.0 one.1).1));
    }
