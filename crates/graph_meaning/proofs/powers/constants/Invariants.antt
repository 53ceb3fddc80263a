use Rattle.std.proofs.Common.{◌≡◌, ◌<◌, ℕ, length, drop}
use Rattle.graph_meaning.proofs.Gathered.{IsSoFar}
use Rattle.graph_meaning.proofs.powers.constants.Given as goal

abbrev pub invariant-loop-row : goal.invariant-loop-row
invariant-loop-row l = record {
  size : length l.constants.items ≡ l.classes;
  each : (class : ℕ) → class < l.classes → IsSoFar l.constants.items (drop l.row-index l.rows) l.rows class;
}
