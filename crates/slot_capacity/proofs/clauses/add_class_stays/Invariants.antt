use Rattle.std.proofs.Common.{◌≡◌, ◌≤◌, ◌-◌, map}
use Rattle.std.specs.List.{range_with_len}
use Rattle.cycle_encoding.specs.Steps.{with_clauses}
use Rattle.slot_capacity.specs.CapacitySteps.{stays_behind}
use Rattle.slot_capacity.proofs.clauses.add_class_stays.Given as goal

abbrev pub invariant-loop-place : goal.invariant-loop-place
invariant-loop-place l = record {
  is : l.cnf ≡ with_clauses l.initial.cnf (map (stays_behind l.before) (range_with_len 1 (l.place - 1)));
  within : l.place - 1 ≤ l.cycles - 1;
}
