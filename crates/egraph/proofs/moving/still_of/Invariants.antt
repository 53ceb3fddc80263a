use Rattle.std.proofs.Common.{ℕ, ◌⊎◌, drop, Contains}
use Rattle.egraph.proofs.Places.{IsOwn}
use Rattle.egraph.proofs.moving.still_of.Given as goal

abbrev pub invariant-loop-place : goal.invariant-loop-place
invariant-loop-place g l = (k : ℕ) → IsOwn l.rows l.class k → Contains l.kept.items k ⊎ Contains (drop l.place-index l.places) k
