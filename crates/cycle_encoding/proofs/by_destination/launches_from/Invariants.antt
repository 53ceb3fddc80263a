use Rattle.std.proofs.Common.{◌≡◌}
use Rattle.std.specs.List.{flat_map, range_with_len}
use Rattle.cycle_encoding.specs.CycleFormula.{allocation_in}
use Rattle.cycle_encoding.specs.CycleFormula.{first_cycle_in}
use Rattle.cycle_encoding.specs.Variables.{row_launches}
use Rattle.cycle_encoding.proofs.by_destination.launches_from.Given as goal

abbrev pub invariant-loop-row : goal.invariant-loop-row
invariant-loop-row l = l.launches.items ≡ flat_map (λ row. row_launches l.frame.facts.now l.frame.table.now (allocation_in l.frame.scope.now) l.frame.k (first_cycle_in l.frame.scope.now row) row) (range_with_len 0 l.row)
