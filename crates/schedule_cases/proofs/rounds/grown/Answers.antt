use Rattle.std.proofs.Common.{◌≡◌, Some, slice_get, subst}
use Rattle.goal_meaning.specs.Views.{input_view}
use Rattle.schedule_cases.proofs.FirstGoals.{first_there}
use Rattle.schedule_cases.proofs.rounds.grown.Goals as goal

pub grown_goal-requires : goal.grown_goal-requires
grown_goal-requires c =
    record {
      input = c.read_inputs_are_well_formed.ensures c.args.text.now (input_view c.in_ok-input.input) c.requires.text c.in_ok-input.ensures.input;
      goal = first_there c.in_ok-input.input.goals c.in-Some.goal.now (subst (λ xs. Some c.in-Some.goal.now ≡ slice_get xs 0) c.as_slice.ensures c.in-Some.ensures.value);
      rounds = c.requires.rounds;
      nodes = c.requires.nodes;
    }
