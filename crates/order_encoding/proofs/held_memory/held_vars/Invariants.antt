use Rattle.std.proofs.Common.{◌≡◌, ◌+◌, ◌*◌, ◌≤◌, map}
use Rattle.std.specs.List.{filter, range_with_len}
use Rattle.order_encoding.specs.OrderVariables.{is_memory_class}
use Rattle.order_encoding.specs.OrderSteps.{held_before}
use Rattle.order_encoding.proofs.HeldPlaces.{held_below}
use Rattle.order_encoding.proofs.held_memory.held_vars.Given as goal

abbrev pub invariant-loop-class : goal.invariant-loop-class
invariant-loop-class l = record {
  classes : l.classes.items ≡ filter (is_memory_class l.facts) (range_with_len 0 l.class);
  starts : l.starts.items ≡ map (held_before l.facts (l.k + 1)) (range_with_len 0 l.class);
  start : l.start ≡ held_below l.facts (l.k + 1) l.class;
  small : l.start ≤ l.class * 25;
}
