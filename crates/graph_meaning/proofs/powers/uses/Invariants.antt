use Rattle.std.proofs.Common.{◌≡◌, ℕ, [], length}
use Rattle.graph_meaning.specs.Raising.{AreUses}
use Rattle.graph_meaning.proofs.Gathered.{uses_of}
use Rattle.graph_meaning.proofs.powers.uses.Given as goal

abbrev pub invariant-loop-class : goal.invariant-loop-class
invariant-loop-class l = record {
  size : length l.uses.items ≡ l._class;
  none : (class : ℕ) → uses_of l.uses.items class ≡ [];
}

abbrev pub invariant-loop-at : goal.invariant-loop-at
invariant-loop-at l = AreUses l.rows l.at l.classes l.uses.items
