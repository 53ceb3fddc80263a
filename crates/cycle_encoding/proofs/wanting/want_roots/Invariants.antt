use Rattle.std.proofs.Common.{ℕ, ◌≡◌, ◌<◌, length}
use Rattle.std.specs.Prelude.{IsTrue}
use Rattle.cycle_encoding.specs.Wanting.{is_root, AreWantedMarks, AreAllMarked, StillMarked, wanted_needs}
use Rattle.cycle_encoding.proofs.wanting.want_roots.Given as goal

abbrev pub invariant-loop-row : goal.invariant-loop-row
invariant-loop-row l = record {
  size : length l.wants.marks.items ≡ length l.initial.wants.marks.items;
  marks : AreWantedMarks l.facts l.wants.marks.items l.wants.order.items;
  still : StillMarked l.initial.wants.marks.items l.wants.marks.items;
  has : (row : ℕ) → row < l.row → IsTrue (is_root l.facts row) → AreAllMarked l.wants.marks.items (wanted_needs l.facts row);
}
