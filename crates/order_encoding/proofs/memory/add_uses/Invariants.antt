use Rattle.std.proofs.Common.{◌≡◌, ◌++◌, take}
use Rattle.std.specs.List.{range_with_len}
use Rattle.cycle_encoding.specs.Shapes.{numbered, implied}
use Rattle.cycle_encoding.specs.Steps.{with_clauses}
use Rattle.order_encoding.specs.OrderVariables.{all_held}
use Rattle.order_encoding.specs.OrderFamilies.{uses_held, leaves}
use Rattle.order_encoding.proofs.memory.add_uses.Given as goal

abbrev pub invariant-loop-index : goal.invariant-loop-index
invariant-loop-index l = l.cnf ≡ with_clauses l.initial.cnf (implied (numbered 0 (take l.index l.vars.launches.now)) (λ x. uses_held l.vars.facts.now (numbered l.vars.held.first (all_held l.vars.facts.now l.vars.held.cycles)) x ++ leaves l.vars.facts.now (numbered l.vars.held.first (all_held l.vars.facts.now l.vars.held.cycles)) (numbered l.vars.stores (range_with_len 0 l.vars.held.cycles)) x))
