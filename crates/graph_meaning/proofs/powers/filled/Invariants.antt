use Rattle.std.proofs.Common.{◌≡◌, ℕ, length}
use Rattle.std.specs.Prelude.{slice_index_or}
use Rattle.graph_meaning.proofs.powers.filled.Given as goal

abbrev pub invariant-loop-made : goal.invariant-loop-made
invariant-loop-made g l = record {
  size : length l.table.items ≡ l._made;
  each : (k : ℕ) → slice_index_or l.table.items k l.value ≡ l.value;
}
