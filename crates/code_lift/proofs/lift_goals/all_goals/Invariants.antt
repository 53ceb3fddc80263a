use Rattle.std.proofs.Common.{◌≡◌, map, take}
use Rattle.goal_meaning.specs.Views.{goal_view}
use Rattle.code_lift.specs.Lifted.{goal_of_lift}
use Rattle.code_lift.specs.Views.{lift_view}
use Rattle.code_lift.proofs.lift_goals.all_goals.Given as goal

abbrev pub invariant-loop-lift : goal.invariant-loop-lift
invariant-loop-lift l = map goal_view l.goals ≡ map goal_of_lift (map lift_view (take l.lift-index l.lifts))
