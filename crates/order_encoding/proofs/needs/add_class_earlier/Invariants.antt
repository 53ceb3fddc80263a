use Rattle.std.proofs.Common.{◌≡◌, ◌-◌, ◌≤◌, map}
use Rattle.std.specs.List.{range_with_len}
use Rattle.cycle_encoding.specs.Steps.{with_clauses}
use Rattle.order_encoding.specs.OrderSteps.{needed_before}
use Rattle.order_encoding.proofs.needs.add_class_earlier.Given as goal

abbrev pub invariant-loop-cycle : goal.invariant-loop-cycle
invariant-loop-cycle l = record { is : l.cnf ≡ with_clauses l.initial.cnf (map (needed_before l.before) (range_with_len 1 (l.cycle - 1))); within : l.cycle - 1 ≤ l.k - 1 }
