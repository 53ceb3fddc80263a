use Rattle.std.proofs.Common.{◌≡◌, ◌+◌, length, take}
use Rattle.cycle_encoding.specs.Shapes.{numbered, implied}
use Rattle.cycle_encoding.specs.Steps.{with_clauses}
use Rattle.order_encoding.specs.OrderSteps.{classes_held}
use Rattle.order_encoding.specs.OrderFamilies.{not_at_entry}
use Rattle.order_encoding.proofs.held_memory.add_others.Given as goal

abbrev pub invariant-loop-class : goal.invariant-loop-class
invariant-loop-class l = record {
  var : l.var ≡ l.held.first + length (classes_held (l.held.cycles + 1) (take l.class-index l.held.classes.items)) + 1;
  cnf : l.cnf ≡ with_clauses l.initial.cnf (implied (numbered l.held.first (classes_held (l.held.cycles + 1) (take l.class-index l.held.classes.items))) (not_at_entry l.facts));
}
