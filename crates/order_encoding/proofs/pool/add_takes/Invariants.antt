use Rattle.std.proofs.Common.{◌≡◌, take}
use Rattle.cycle_encoding.specs.Shapes.{numbered, implied}
use Rattle.cycle_encoding.specs.Steps.{with_clauses}
use Rattle.order_encoding.specs.OrderVariables.{all_taken}
use Rattle.order_encoding.specs.PinFamilies.{takes_register}
use Rattle.order_encoding.proofs.pool.add_takes.Given as goal

abbrev pub invariant-loop-index : goal.invariant-loop-index
invariant-loop-index l = l.cnf ≡ with_clauses l.initial.cnf (implied (numbered 0 (take l.index l.launches)) (takes_register l.facts (numbered l.taken.first (all_taken l.taken.table.now l.taken.k))))
