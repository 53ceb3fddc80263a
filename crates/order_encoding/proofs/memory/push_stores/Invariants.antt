use Rattle.std.proofs.Common.{◌≡◌, ◌++◌, ◌==◌, take, map}
use Rattle.std.specs.List.{filter}
use Rattle.cycle_encoding.specs.Shapes.{positive}
use Rattle.order_encoding.proofs.memory.push_stores.Given as goal

abbrev pub invariant-loop-var : goal.invariant-loop-var
invariant-loop-var l = l.lits.items ≡ l.initial.lits.items ++ map (λ p. positive p.0) (filter (λ p. p.1.cycle == l.cycle) (take l.var-index l.found))
