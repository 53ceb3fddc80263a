use Rattle.std.proofs.Common.{◌≡◌, ◌≤◌, ◌*◌, ◌^◌}
use Rattle.std.specs.List.{sum_by, range_with_len}
use Rattle.cnf_core.specs.Counter.{at_most_vars, at_most_size}
use Rattle.cycle_encoding.specs.Counts.{destined_at}
use Rattle.cycle_encoding.proofs.destined_counts.place_sizes.Given as goal

abbrev pub invariant-loop-slot : goal.invariant-loop-slot
invariant-loop-slot l = record { vars : l.vars ≡ sum_by (λ s. sum_by (λ t. at_most_vars 1 (destined_at l.frame.facts.now l.frame.table.now l.frame.k l.frame.scope.now s t)) (range_with_len 0 l.frame.k)) (range_with_len 0 l.slot); clauses : l.clauses ≡ sum_by (λ s. sum_by (λ t. at_most_size 1 (destined_at l.frame.facts.now l.frame.table.now l.frame.k l.frame.scope.now s t)) (range_with_len 0 l.frame.k)) (range_with_len 0 l.slot); few_vars : l.vars ≤ l.slot * 2 ^ 42; few_clauses : l.clauses ≤ l.slot * 2 ^ 44 }
