use Rattle.std.proofs.Common.{◌≡◌, ◌==◌, map}
use Rattle.std.specs.List.{range_with_len}
use Rattle.cycle_encoding.specs.Shapes.{numbered, vars_of}
use Rattle.cycle_encoding.specs.Steps.{with_counters}
use Rattle.order_encoding.specs.OrderVariables.{all_held}
use Rattle.order_encoding.proofs.held_memory.add_held_counters.Given as goal

abbrev pub invariant-loop-cycle : goal.invariant-loop-cycle
invariant-loop-cycle l = l.cnf ≡ with_counters l.initial.cnf (map (λ t. vars_of (λ m. m.cycle == t) (numbered l.held.first (all_held l.facts l.held.cycles))) (range_with_len 0 l.cycle))
