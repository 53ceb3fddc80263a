use Rattle.std.proofs.Common.{◌≡◌, ◌≤◌, ◌+◌, ◌*◌, length}
use Rattle.std.specs.List.{sum_by, range_with_len}
use Rattle.cnf_core.specs.Counter.{at_most_size, at_most_vars}
use Rattle.order_encoding.proofs.live_counts.counter_sizes.Given as goal

abbrev pub invariant-loop-cycle : goal.invariant-loop-cycle
invariant-loop-cycle l = record { vars : l.vars ≡ sum_by (λ t. at_most_vars (length l.frame.facts.now.pool) (length l.frame.table.now.slots * (t + 1))) (range_with_len 0 l.cycle); clauses : l.clauses ≡ sum_by (λ t. at_most_size (length l.frame.facts.now.pool) (length l.frame.table.now.slots * (t + 1))) (range_with_len 0 l.cycle); few_vars : l.vars ≤ l.cycle * 40000; few_clauses : l.clauses ≤ l.cycle * 80000 }
