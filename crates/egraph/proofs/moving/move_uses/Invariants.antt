use Rattle.std.proofs.Common.{◌≡◌, ℕ, ◌⊎◌, drop, Contains}
use Rattle.slab.specs.Slab.{get, slab_len}
use Rattle.egraph.specs.Steps.{moved}
use Rattle.egraph.specs.Tables.{reoperand, Becomes, IsTracked}
use Rattle.egraph.proofs.moving.move_uses.Given as goal

abbrev pub invariant-loop-place : goal.invariant-loop-place
invariant-loop-place g l = record {
  each : (k : ℕ) → Becomes (reoperand (moved l.from l.to)) l.initial.rows l.rows k ⊎ ((get l.rows k ≡ get l.initial.rows k) × Contains (drop l.place-index l.places) k);
  tracked : (k : ℕ) → IsTracked g.O.Operator.signature l.initial.rows l.initial.index l.initial.waiting.items k → IsTracked g.O.Operator.signature l.rows l.index l.waiting.items k;
  len : slab_len l.rows ≡ slab_len l.initial.rows;
}
