use Rattle.std.proofs.Common.{◌≢◌, take}
use Rattle.std.specs.Prelude.{All}
use Rattle.code_check.proofs.comparing.find_place.Given as goal

abbrev pub invariant-loop-place : goal.invariant-loop-place
invariant-loop-place l = All (λ p. p.set ≢ l.set) (take l.place-index l.places)
