use Rattle.std.proofs.Common.{◌≡◌, ◌+◌, length, take}
use Rattle.std.specs.List.{range_with_len}
use Rattle.cycle_encoding.specs.Shapes.{numbered, implied}
use Rattle.cycle_encoding.specs.Steps.{with_clauses}
use Rattle.order_encoding.specs.OrderVariables.{all_held}
use Rattle.order_encoding.specs.OrderSteps.{classes_held}
use Rattle.order_encoding.specs.OrderFamilies.{stays}
use Rattle.order_encoding.proofs.memory.add_stays.Given as goal

abbrev pub invariant-loop-class : goal.invariant-loop-class
invariant-loop-class l = record {
  var : l.var ≡ l.vars.held.first + length (classes_held (l.vars.held.cycles + 1) (take l.class-index l.vars.held.classes.items)) + l.cycle + 1;
  cnf : l.cnf ≡ with_clauses l.initial.cnf (implied (numbered l.vars.held.first (classes_held (l.vars.held.cycles + 1) (take l.class-index l.vars.held.classes.items))) (stays (numbered l.vars.held.first (all_held l.vars.facts.now l.vars.held.cycles)) (numbered l.vars.stores (range_with_len 0 l.vars.held.cycles)) l.cycle));
}
