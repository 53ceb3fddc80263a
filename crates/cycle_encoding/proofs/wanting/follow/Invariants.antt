use Rattle.std.proofs.Common.{ℕ, ◌≡◌, length, take}
use Rattle.std.specs.Prelude.{Contains}
use Rattle.cycle_encoding.specs.Wanting.{AreWantedMarks, AreAllMarked, IsLonger, StillMarked, wanted_needs}
use Rattle.cycle_encoding.proofs.wanting.follow.Given as goal

abbrev pub invariant-loop-row : goal.invariant-loop-row
invariant-loop-row l = record {
  size : length l.wants.marks.items ≡ length l.initial.wants.marks.items;
  marks : AreWantedMarks l.facts l.wants.marks.items l.wants.order.items;
  longer : IsLonger l.initial.wants.order.items l.wants.order.items;
  still : StillMarked l.initial.wants.marks.items l.wants.marks.items;
  has : (row : ℕ) → Contains (take l.row-index l.rows) row → AreAllMarked l.wants.marks.items (wanted_needs l.facts row);
}
