use Rattle.std.proofs.Common.{◌≡◌, take}
use Rattle.cycle_encoding.specs.Shapes.{numbered, implied}
use Rattle.cycle_encoding.specs.Steps.{with_clauses}
use Rattle.order_encoding.specs.OrderSteps.{next_in_set}
use Rattle.order_encoding.proofs.pins.add_goes.Given as goal

abbrev pub invariant-loop-index : goal.invariant-loop-index
invariant-loop-index l = l.cnf ≡ with_clauses l.initial.cnf (implied (numbered 0 (take l.index l.plan.launches.now)) (next_in_set l.plan.frame.k l.before l.set))
