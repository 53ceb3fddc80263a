use Rattle.std.proofs.Common.{◌<◌, ◌^◌, length, subst, arith}
use Rattle.std.proofs.lemmas.List.Elements.{All-contains}
use Rattle.axiom_base.specs.Schemes.{AddedRules}
use Rattle.goal_meaning.specs.Views.{goal_view, input_view}
use Rattle.goal_meaning.specs.WellFormed.{IsGoal}
use Rattle.saturation.specs.GoalTerms.{assumed_pairs, present_terms}
use Rattle.saturation.specs.Grown.{IsGrown}
use Rattle.schedule_cases.proofs.rounds.first_graph.Goals as goal

pub start-requires : goal.start-requires
start-requires c =
    let input = input_view c.args.input.now in
    record { goal = (input.ops, All-contains (IsGoal input.ops) input.goals (goal_view c.args.goal.now) c.requires.input.goals c.requires.goal) }

pub to_launch-requires : goal.to_launch-requires
to_launch-requires c =
    let input = input_view c.args.input.now in
    let goal_is = goal_view c.args.goal.now in
    let after = c.in_ok-grown.ensures.saturated.after.grown (present_terms goal_is) (assumed_pairs goal_is) (c.in_ok-graph.ensures.grown c.in_ok-rules.rules) in
    let grown = subst (λ (added : AddedRules). IsGrown added (present_terms goal_is) (assumed_pairs goal_is) c.in_ok-grown.grown.graph c.in_ok-grown.grown.rounds) c.in_ok-rules.ensures.rules after.0 in
    let few : length c.in_ok-grown.grown.graph.rows < 2 ^ 30 = omega (arith, c.in_ok-grown.ensures.few, c.in_ok-graph.ensures.graph.few_rows, c.in_ok-graph.ensures.few) in
    record {
      input = c.requires.input;
      goal = c.requires.goal;
      can = c.grown_graphs_can_be_launched.ensures.can c.none-none.result input goal_is c.in_ok-grown.grown.graph c.in_ok-grown.grown.rounds c.requires.input c.requires.goal c.in_ok-grown.ensures.saturated.graph few grown;
    }
