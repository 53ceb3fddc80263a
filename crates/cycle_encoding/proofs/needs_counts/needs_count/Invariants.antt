use Rattle.std.proofs.Common.{◌≡◌, ◌≤◌, ◌*◌}
use Rattle.std.specs.List.{count_by, sum_by, range_with_len}
use Rattle.schedule_meaning.specs.Launches.{operands_at}
use Rattle.cycle_encoding.specs.CycleFormula.{allocation_in}
use Rattle.cycle_encoding.specs.Counts.{row_count}
use Rattle.cycle_encoding.specs.Counts.{row_destinations, needs_clause}
use Rattle.cycle_encoding.proofs.needs_counts.needs_count.Given as goal

abbrev pub invariant-loop-row : goal.invariant-loop-row
invariant-loop-row l = record { is : l.count ≡ sum_by (λ row. row_count l.frame.facts.now l.frame.table.now l.frame.k l.frame.scope.now row * sum_by (λ to. count_by (needs_clause l.frame.facts.now to) (operands_at l.frame.facts.now row)) (row_destinations l.frame.facts.now (allocation_in l.frame.scope.now) row)) (range_with_len 0 l.row); small : l.count ≤ l.row * 25600 }
