use Rattle.std.proofs.Common.{◌≡◌, ℕ, ◌⊎◌, length, take}
use Rattle.std.specs.Prelude.{Contains}
use Rattle.graph_meaning.proofs.Gathered.{uses_of}
use Rattle.graph_meaning.proofs.powers.note_uses.Given as goal

abbrev pub invariant-loop-class : goal.invariant-loop-class
invariant-loop-class l = record {
  size : length l.uses.items ≡ length l.initial.uses.items;
  within : (class k : ℕ) → Contains (uses_of l.uses.items class) k → Contains (uses_of l.initial.uses.items class) k
      ⊎ (k ≡ l.at);
  still : (class k : ℕ) → Contains (uses_of l.initial.uses.items class) k → Contains (uses_of l.uses.items class) k;
  has : (class : ℕ) → Contains (take l.class-index l.operands) class → Contains (uses_of l.uses.items class) l.at;
}
