use Rattle.std.proofs.Common.{◌≡◌, take}
use Rattle.std.specs.List.{range_with_len}
use Rattle.cycle_encoding.specs.Shapes.{numbered, implied}
use Rattle.cycle_encoding.specs.Steps.{with_clauses}
use Rattle.order_encoding.specs.PinFamilies.{loads_alone}
use Rattle.order_encoding.proofs.pins.add_over_loads.Given as goal

abbrev pub invariant-loop-index : goal.invariant-loop-index
invariant-loop-index l = l.cnf ≡ with_clauses l.initial.cnf (implied (numbered 0 (take l.index l.plan.launches.now)) (loads_alone l.plan.frame.facts.now (numbered l.first (range_with_len 0 l.plan.frame.k))))
