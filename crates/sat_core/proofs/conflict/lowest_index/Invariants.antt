use Rattle.std.proofs.Common.{◌≡◌, ◌≤◌, take}
use Rattle.std.specs.Prelude.{◌⊎◌}
use Rattle.std.specs.List.{All, Contains}
use Rattle.cnf_core.specs.declared.literal.Lit.{Lit}
use Rattle.sat_core.specs.Walks.{trail_index}
use Rattle.sat_core.proofs.conflict.lowest_index.Given as goal

abbrev pub invariant-loop-lit : goal.invariant-loop-lit
invariant-loop-lit l = record {
  most : l.lowest ≤ l.most;
  each : All (λ x. l.lowest ≤ trail_index l.indices x) (take l.lit-index l.clause);
  reached : (l.lowest ≡ l.most) ⊎ ((x : Lit) × Contains l.clause x × (l.lowest ≡ trail_index l.indices x));
}
