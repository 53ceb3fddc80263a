use Rattle.std.proofs.Common.{◌≡◌}
use Rattle.cycle_encoding.specs.Shapes.{numbered}
use Rattle.cycle_encoding.specs.Steps.{with_counters}
use Rattle.order_encoding.specs.OrderFamilies.{store_groups}
use Rattle.order_encoding.proofs.memory.add_store_counters.Given as goal

abbrev pub invariant-loop-cycle : goal.invariant-loop-cycle
invariant-loop-cycle l = l.cnf ≡ with_counters l.initial.cnf (store_groups l.vars.facts.now l.cycle (numbered 0 l.vars.launches.now))
