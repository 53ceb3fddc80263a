use Rattle.std.proofs.Common.{◌≡◌, ◌≤◌}
use Rattle.std.specs.List.{count_by, range_with_len}
use Rattle.order_encoding.specs.OrderCounts.{is_pooled_in}
use Rattle.order_encoding.proofs.live_counts.pooled_count.Given as goal

abbrev pub invariant-loop-class : goal.invariant-loop-class
invariant-loop-class l = record { is : l.count ≡ count_by (is_pooled_in l.pooled.frame.facts.now l.pooled.frame.table.now l.pooled.frame.k l.pooled.frame.scope.now) (range_with_len 0 l.class); small : l.count ≤ l.class }
