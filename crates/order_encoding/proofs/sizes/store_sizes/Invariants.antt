use Rattle.std.proofs.Common.{◌≡◌, ◌≤◌, ◌*◌, ◌^◌}
use Rattle.std.specs.List.{sum_by, range_with_len}
use Rattle.cnf_core.specs.Counter.{at_most_vars, at_most_size}
use Rattle.order_encoding.specs.OrderCounts.{destined_stores}
use Rattle.order_encoding.proofs.sizes.store_sizes.Given as goal

abbrev pub invariant-loop-cycle : goal.invariant-loop-cycle
invariant-loop-cycle l = record { vars : l.vars ≡ sum_by (λ t. at_most_vars 1 (destined_stores l.frame.facts.now l.frame.table.now l.frame.k l.frame.scope.now t)) (range_with_len 0 l.cycle); clauses : l.clauses ≡ sum_by (λ t. at_most_size 1 (destined_stores l.frame.facts.now l.frame.table.now l.frame.k l.frame.scope.now t)) (range_with_len 0 l.cycle); few_vars : l.vars ≤ l.cycle * 2 ^ 39; few_clauses : l.clauses ≤ l.cycle * (3 * 2 ^ 39) }
