use Rattle.std.proofs.Common.{◌≡◌, length, take}
use Rattle.cycle_encoding.specs.Wanting.{AreWantedMarks, AreAllMarked, IsLonger, StillMarked}
use Rattle.cycle_encoding.proofs.wanting.want_all.Given as goal

abbrev pub invariant-loop-class : goal.invariant-loop-class
invariant-loop-class l = record {
  size : length l.wants.marks.items ≡ length l.initial.wants.marks.items;
  marks : AreWantedMarks l.facts l.wants.marks.items l.wants.order.items;
  longer : IsLonger l.initial.wants.order.items l.wants.order.items;
  still : StillMarked l.initial.wants.marks.items l.wants.marks.items;
  has : AreAllMarked l.wants.marks.items (take l.class-index l.classes);
}
