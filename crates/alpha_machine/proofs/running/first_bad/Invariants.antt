use Rattle.std.proofs.Common.{◌≡◌, ℕ, ◌<◌, length, Some}
use Rattle.std.specs.Prelude.{slice_get}
use Rattle.alpha_machine.specs.Runs.{MayStandAt}
use Rattle.alpha_machine.proofs.running.first_bad.Given as goal

-- The words so far may stand where they do.
abbrev pub invariant-loop-at : goal.invariant-loop-at
invariant-loop-at l = (j word : ℕ) → j < l.at → slice_get l.words j ≡ Some word → MayStandAt (length l.words) j word
