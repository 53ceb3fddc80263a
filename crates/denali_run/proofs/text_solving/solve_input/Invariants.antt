use Rattle.std.proofs.Common.{take}
use Rattle.std.specs.List.{AllZip}
use Rattle.goal_meaning.specs.Views.{input_view}
use Rattle.denali_run.specs.Right.{Right}
use Rattle.denali_run.proofs.text_solving.solve_input.Given as goal

abbrev pub invariant-loop-at : goal.invariant-loop-at
invariant-loop-at l =
    AllZip (λ goal answered. Right (input_view l.input) goal l.settings answered)
    (take l.at (input_view l.input).goals) l.results.items
