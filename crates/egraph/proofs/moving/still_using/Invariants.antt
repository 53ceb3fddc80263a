use Rattle.std.proofs.Common.{ℕ, ◌⊎◌, drop, Contains}
use Rattle.egraph.proofs.Places.{IsUse}
use Rattle.egraph.proofs.moving.still_using.Given as goal

abbrev pub invariant-loop-place : goal.invariant-loop-place
invariant-loop-place g l = (k : ℕ) → IsUse l.rows l.class k → Contains l.kept.items k ⊎ Contains (drop l.place-index l.places) k
