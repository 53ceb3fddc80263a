use Rattle.std.proofs.lemmas.List.Elements.{All-contains}
use Rattle.goal_meaning.specs.Views.{goal_view, input_view}
use Rattle.goal_meaning.specs.WellFormed.{IsGoal}
use Rattle.schedule_cases.proofs.rounds.grown_goal.Goals as goal

pub start-requires : goal.start-requires
start-requires c =
    let input = input_view c.args.input.now in
    record { goal = (input.ops, All-contains (IsGoal input.ops) input.goals (goal_view c.args.goal.now) c.requires.input.goals c.requires.goal) }
