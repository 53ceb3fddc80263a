use Rattle.std.proofs.Common.{ℕ, ◌≡◌, ◌<◌, length, get_or}
use Rattle.cycle_encoding.specs.Wanting.{AreWantedMarks, IsFollowed, StillMarked}
use Rattle.cycle_encoding.proofs.wanting.close.Given as goal

abbrev pub invariant-loop-at : goal.invariant-loop-at
invariant-loop-at l = record {
  size : length l.wants.marks.items ≡ length l.initial.wants.marks.items;
  marks : AreWantedMarks l.facts l.wants.marks.items l.wants.order.items;
  still : StillMarked l.initial.wants.marks.items l.wants.marks.items;
  done : (p : ℕ) → p < l.at → p < length l.wants.order.items → IsFollowed l.facts l.wants.marks.items (get_or l.wants.order.items p 0);
}
