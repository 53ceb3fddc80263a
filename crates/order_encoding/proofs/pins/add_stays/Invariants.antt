use Rattle.std.proofs.Common.{◌≡◌, map}
use Rattle.std.specs.List.{range_with_len}
use Rattle.cycle_encoding.specs.Steps.{with_clauses}
use Rattle.order_encoding.specs.OrderSteps.{stays_in_set}
use Rattle.order_encoding.proofs.pins.add_stays.Given as goal

abbrev pub invariant-loop-cycle : goal.invariant-loop-cycle
invariant-loop-cycle l = l.cnf ≡ with_clauses l.initial.cnf (map (stays_in_set l.before) (range_with_len 0 l.cycle))
