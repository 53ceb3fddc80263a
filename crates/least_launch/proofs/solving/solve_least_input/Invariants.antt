use Rattle.std.proofs.Common.{take}
use Rattle.std.specs.List.{AllZip}
use Rattle.goal_meaning.specs.Views.{input_view}
use Rattle.denali_run.specs.Right.{Right}
use Rattle.least_launch.specs.LeastAnswers.{IsTailOf}
use Rattle.least_launch.proofs.solving.solve_least_input.Given as goal

abbrev pub invariant-loop-at : goal.invariant-loop-at
invariant-loop-at l = record {
  right : AllZip (λ goal answered. Right (input_view l.input) goal l.settings answered)
      (take l.at (input_view l.input).goals) l.results.items;
  said : AllZip (IsTailOf l.input.table l.settings.allocation l.settings.conflicts) l.results.items l.said.items;
}
