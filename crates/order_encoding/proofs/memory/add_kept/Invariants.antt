use Rattle.std.proofs.Common.{◌≡◌}
use Rattle.std.specs.List.{flat_map, range_with_len}
use Rattle.cycle_encoding.specs.Shapes.{numbered}
use Rattle.cycle_encoding.specs.Steps.{with_clauses}
use Rattle.order_encoding.specs.OrderVariables.{all_held}
use Rattle.order_encoding.specs.OrderFamilies.{kept_at}
use Rattle.order_encoding.proofs.memory.add_kept.Given as goal

abbrev pub invariant-loop-cycle : goal.invariant-loop-cycle
invariant-loop-cycle l = l.cnf ≡ with_clauses l.initial.cnf (flat_map (kept_at l.vars.facts.now (numbered 0 l.vars.launches.now) (numbered l.vars.held.first (all_held l.vars.facts.now l.vars.held.cycles)) (numbered l.vars.stores (range_with_len 0 l.vars.held.cycles))) (range_with_len 0 l.cycle))
