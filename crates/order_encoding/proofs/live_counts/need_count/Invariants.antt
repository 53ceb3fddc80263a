use Rattle.std.proofs.Common.{◌≡◌, ◌≤◌, ◌*◌}
use Rattle.std.specs.List.{count_by, sum_by, range_with_len}
use Rattle.schedule_meaning.specs.Launches.{operands_at}
use Rattle.cycle_encoding.specs.CycleFormula.{allocation_in}
use Rattle.cycle_encoding.specs.Counts.{row_count, row_destinations}
use Rattle.order_encoding.specs.OrderCounts.{is_pooled_operand_in}
use Rattle.order_encoding.proofs.live_counts.need_count.Given as goal

abbrev pub invariant-loop-row : goal.invariant-loop-row
invariant-loop-row l = record { is : l.count ≡ sum_by (λ row. row_count l.pooled.frame.facts.now l.pooled.frame.table.now l.pooled.frame.k l.pooled.frame.scope.now row * sum_by (λ to. count_by (is_pooled_operand_in l.pooled.frame.facts.now l.pooled.frame.table.now l.pooled.frame.k l.pooled.frame.scope.now) (operands_at l.pooled.frame.facts.now row)) (row_destinations l.pooled.frame.facts.now (allocation_in l.pooled.frame.scope.now) row)) (range_with_len 0 l.row); small : l.count ≤ l.row * 25600 }
