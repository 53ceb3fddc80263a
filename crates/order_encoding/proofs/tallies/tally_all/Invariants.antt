use Rattle.std.proofs.Common.{◌≡◌, ◌≤◌, ◌*◌}
use Rattle.std.specs.List.{sum_by, range_with_len}
use Rattle.cycle_encoding.specs.Counts.{row_count, row_destinations}
use Rattle.cycle_encoding.specs.CycleFormula.{allocation_in}
use Rattle.order_encoding.specs.Tallies.{tallied}
use Rattle.order_encoding.proofs.tallies.tally_all.Given as goal

abbrev pub invariant-loop-row : goal.invariant-loop-row
invariant-loop-row l = record {
  is : l.count ≡ sum_by (λ row. row_count l.frame.facts.now l.frame.table.now l.frame.k l.frame.scope.now row * sum_by (tallied l.tally l.frame.facts.now row) (row_destinations l.frame.facts.now (allocation_in l.frame.scope.now) row)) (range_with_len 0 l.row);
  small : l.count ≤ l.row * 19200;
}
