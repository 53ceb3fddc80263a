use Rattle.std.proofs.Common.{◌≡◌, ◌≤◌, take}
use Rattle.std.specs.List.{count_by}
use Rattle.schedule_meaning.specs.Launches.{operands_at}
use Rattle.order_encoding.specs.OrderCounts.{is_pooled_operand_in}
use Rattle.order_encoding.proofs.live_counts.row_needs.Given as goal

abbrev pub invariant-loop-at : goal.invariant-loop-at
invariant-loop-at l = record { is : l.count ≡ count_by (is_pooled_operand_in l.pooled.frame.facts.now l.pooled.frame.table.now l.pooled.frame.k l.pooled.frame.scope.now) (take l.at (operands_at l.pooled.frame.facts.now l.row)); small : l.count ≤ l.at }
