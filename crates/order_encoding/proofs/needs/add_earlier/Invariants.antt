use Rattle.std.proofs.Common.{◌≡◌, ◌+◌, length, take}
use Rattle.std.specs.List.{flat_map}
use Rattle.cycle_encoding.specs.Shapes.{numbered, implied}
use Rattle.cycle_encoding.specs.Steps.{with_clauses}
use Rattle.order_encoding.specs.LiveVariables.{all_needs, pooled_classes}
use Rattle.order_encoding.specs.LiveFamilies.{was_needed}
use Rattle.order_encoding.specs.OrderSteps.{class_needs}
use Rattle.order_encoding.proofs.needs.add_earlier.Given as goal

abbrev pub invariant-loop-class : goal.invariant-loop-class
invariant-loop-class l = record {
  before : l.before ≡ l.live.needs.first + length (flat_map (class_needs l.live.needs.cycles) (take l._class-index l.live.needs.classes.items));
  cnf : l.cnf ≡ with_clauses l.initial.cnf (implied (numbered l.live.needs.first (flat_map (class_needs l.live.needs.cycles) (take l._class-index l.live.needs.classes.items))) (was_needed (numbered l.live.needs.first (all_needs l.live.needs.cycles (pooled_classes l.live.facts.now (numbered 0 l.live.launches.now))))));
}
