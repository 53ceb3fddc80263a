use Rattle.std.proofs.Common.{◌≡◌, map, take}
use Rattle.goal_meaning.specs.Views.{assume_view}
use Rattle.code_lift.specs.Lifted.{assume_of}
use Rattle.code_lift.proofs.lift_goals.assumes.Given as goal

abbrev pub invariant-loop-address : goal.invariant-loop-address
invariant-loop-address l = map assume_view l.assumes ≡ map assume_of (take l.address-index l.addresses)
