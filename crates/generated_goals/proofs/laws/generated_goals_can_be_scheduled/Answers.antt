use Rattle.std.proofs.Common.{[], refl}
use Rattle.generated_goals.specs.Generated.{generated_goal}
use Rattle.generated_goals.proofs.Targets.{scheduled}
use Rattle.generated_goals.proofs.WellFormed.{goal_kept}
use Rattle.generated_goals.proofs.laws.generated_goals_can_be_scheduled.Goals as goal

pub returns : goal.returns
returns c = scheduled (λ size few. c.goals_without_lets_are_expanded.ensures [] (generated_goal size) (goal_kept size few) refl)
