use Rattle.std.proofs.Common.{◌≡◌, length, take, ◌∷◌, []}
use Rattle.std.specs.Prelude.{Contains, IsTrue}
use Rattle.graph_meaning.specs.declared.graphs.SetClass.{SetClass}
use Rattle.cycle_encoding.specs.Wanting.{is_wanted_target, AreWantedMarks, AreAllMarked}
use Rattle.cycle_encoding.proofs.wanting.want_targets.Given as goal

abbrev pub invariant-loop-set : goal.invariant-loop-set
invariant-loop-set l = record {
  size : length l.wants.marks.items ≡ length l.initial.wants.marks.items;
  marks : AreWantedMarks l.facts l.wants.marks.items l.wants.order.items;
  has : (s : SetClass) → Contains (take l.set-index l.facts.sets) s → IsTrue (is_wanted_target l.facts s) → AreAllMarked l.wants.marks.items (s.class ∷ []);
}
