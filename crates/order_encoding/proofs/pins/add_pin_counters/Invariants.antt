use Rattle.std.proofs.Common.{◌≡◌, take, map}
use Rattle.schedule_meaning.specs.Launches.{goes_to}
use Rattle.cycle_encoding.specs.Shapes.{numbered, vars_of}
use Rattle.cycle_encoding.specs.Steps.{with_counters}
use Rattle.cycle_encoding.specs.Variables.{pinned_sets}
use Rattle.order_encoding.proofs.pins.add_pin_counters.Given as goal

abbrev pub invariant-loop-set : goal.invariant-loop-set
invariant-loop-set l = l.cnf ≡ with_counters l.initial.cnf (map (λ j. vars_of (goes_to j) (numbered 0 l.plan.launches.now)) (take l.set-index (pinned_sets l.plan.frame.facts.now)))
