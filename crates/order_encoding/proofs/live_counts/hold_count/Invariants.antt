use Rattle.std.proofs.Common.{◌≡◌, ◌≤◌, ◌*◌}
use Rattle.std.specs.List.{sum_by, range_with_len}
use Rattle.schedule_meaning.specs.Launches.{gives_word}
use Rattle.cycle_encoding.specs.Counts.{one_if, row_is}
use Rattle.order_encoding.specs.OrderCounts.{row_holds}
use Rattle.order_encoding.proofs.live_counts.hold_count.Given as goal

abbrev pub invariant-loop-row : goal.invariant-loop-row
invariant-loop-row l = record { is : l.count ≡ sum_by (λ row. one_if (row_is l.frame.facts.now gives_word row) * row_holds l.frame.facts.now l.frame.table.now l.frame.k l.frame.scope.now row) (range_with_len 0 l.row); small : l.count ≤ l.row * 5000 }
