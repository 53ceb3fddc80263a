use Rattle.std.proofs.Common.{◌≡◌, ◌≤◌, ◌*◌, length}
use Rattle.std.specs.List.{sum_by, range_with_len}
use Rattle.cycle_encoding.specs.CycleFormula.{allocation_in}
use Rattle.cycle_encoding.specs.Counts.{one_if, row_has}
use Rattle.cycle_encoding.specs.Counts.{row_destinations}
use Rattle.cycle_encoding.proofs.destined_counts.destined_at.Given as goal

abbrev pub invariant-loop-row : goal.invariant-loop-row
invariant-loop-row l = record { is : l.count ≡ sum_by (λ row. one_if (row_has l.frame.facts.now l.frame.table.now l.frame.k l.frame.scope.now l.slot l.cycle row) * length (row_destinations l.frame.facts.now (allocation_in l.frame.scope.now) row)) (range_with_len 0 l.row); small : l.count ≤ l.row * 32 }
