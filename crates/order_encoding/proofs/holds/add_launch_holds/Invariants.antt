use Rattle.std.proofs.Common.{◌≡◌, ◌+◌, ◌-◌, ◌≤◌, ◌∷◌, map}
use Rattle.std.specs.List.{range_with_len}
use Rattle.cycle_encoding.specs.Shapes.{numbered, vars_of}
use Rattle.cycle_encoding.specs.Steps.{of_thing, with_clauses}
use Rattle.order_encoding.specs.LiveVariables.{all_holds, all_needs, pooled_classes}
use Rattle.order_encoding.specs.LiveFamilies.{holds_while, is_hold_at}
use Rattle.order_encoding.proofs.holds.add_launch_holds.Given as goal

abbrev pub invariant-loop-step : goal.invariant-loop-step
invariant-loop-step l = record { is : l.cnf ≡ with_clauses l.fn.cnf (of_thing l.made.var (vars_of (is_hold_at l.made.launch.slot l.made.launch.cycle l.made.launch.cycle) (numbered l.first (all_holds l.live.table.now l.live.needs.cycles)) ∷ map (holds_while l.live.facts.now (numbered l.live.needs.first (all_needs l.live.needs.cycles (pooled_classes l.live.facts.now (numbered 0 l.live.launches.now)))) (numbered l.first (all_holds l.live.table.now l.live.needs.cycles)) l.made.launch) (range_with_len (l.made.launch.cycle + 1) (l.step - 1)))); within : l.step - 1 ≤ l.live.needs.cycles - (l.made.launch.cycle + 1) }
