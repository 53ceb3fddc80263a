use Rattle.std.proofs.Common.{◌≡◌, ◌≤◌, ◌*◌, length}
use Rattle.std.specs.List.{sum_by, range_with_len}
use Rattle.cycle_encoding.specs.Counts.{row_destinations}
use Rattle.cycle_encoding.specs.CycleFormula.{allocation_in}
use Rattle.slot_capacity.specs.CapacityCounts.{row_made}
use Rattle.slot_capacity.proofs.counts.made_count.Given as goal

abbrev pub invariant-loop-row : goal.invariant-loop-row
invariant-loop-row l = record {
  is : l.count
      ≡ sum_by
      (λ row. row_made l.frame.facts.now l.frame.table.now l.frame.k l.frame.scope.now l.counted row
      * length (row_destinations l.frame.facts.now (allocation_in l.frame.scope.now) row))
      (range_with_len 0 l.row);
  small : l.count ≤ l.row * 6400;
}
