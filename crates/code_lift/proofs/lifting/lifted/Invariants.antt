use Rattle.std.proofs.Common.{◌≡◌, ◌≤◌, length, take}
use Rattle.code_lift.specs.Lifted.{lifted}
use Rattle.code_lift.specs.LiftingView.{lifting_view}
use Rattle.code_lift.proofs.lifting.lifted.Given as goal

abbrev pub invariant-loop-at : goal.invariant-loop-at
invariant-loop-at l = record { so_far : lifting_view l.lifting ≡ lifted (take l.at l.words); few : length l.lifting.lets.items ≤ l.at }
