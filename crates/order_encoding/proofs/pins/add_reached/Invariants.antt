use Rattle.std.proofs.Common.{◌≡◌, ◌∷◌, [], take}
use Rattle.std.specs.Prelude.{not}
use Rattle.std.specs.List.{flat_map}
use Rattle.schedule_meaning.specs.Launches.{goes_to}
use Rattle.cycle_encoding.specs.Shapes.{numbered, vars_of, when}
use Rattle.cycle_encoding.specs.Steps.{with_clauses}
use Rattle.cycle_encoding.specs.Variables.{pinned_sets}
use Rattle.order_encoding.specs.PinFamilies.{has_own_input}
use Rattle.order_encoding.proofs.pins.add_reached.Given as goal

abbrev pub invariant-loop-set : goal.invariant-loop-set
invariant-loop-set l = l.cnf ≡ with_clauses l.initial.cnf (flat_map (λ j. when (not (has_own_input l.plan.frame.facts.now j)) (vars_of (goes_to j) (numbered 0 l.plan.launches.now) ∷ [])) (take l.set-index (pinned_sets l.plan.frame.facts.now)))
