use Rattle.std.proofs.Common.{◌≡◌, ℕ, ◌<◌, true}
use Rattle.register_assign.specs.PoolPlaces.{is_taken}
use Rattle.register_assign.proofs.pool_places.first_free.Given as goal

-- The places so far are taken.
abbrev pub invariant-loop-place : goal.invariant-loop-place
invariant-loop-place l = (q : ℕ) → q < l.place → is_taken l.graph l.launches l.places l.cycle q ≡ true
