use Rattle.std.proofs.Common.{◌≡◌, ◌≤◌, ◌*◌, ◌^◌, take}
use Rattle.std.specs.List.{sum_by}
use Rattle.cnf_core.specs.Counter.{at_most_vars}
use Rattle.cycle_encoding.specs.Variables.{pinned_sets}
use Rattle.order_encoding.specs.OrderCounts.{goes_count}
use Rattle.order_encoding.specs.OrderSteps.{set_size}
use Rattle.order_encoding.proofs.pin_counts.sets_sizes.Given as goal

abbrev pub invariant-loop-set : goal.invariant-loop-set
invariant-loop-set l = record { vars : l.vars ≡ sum_by (λ j. at_most_vars 1 (goes_count l.frame.facts.now l.frame.table.now l.frame.k l.frame.scope.now j)) (take l.set-index (pinned_sets l.frame.facts.now)); clauses : l.clauses ≡ sum_by (set_size l.frame.facts.now l.frame.table.now l.frame.k l.frame.scope.now) (take l.set-index (pinned_sets l.frame.facts.now)); few_vars : l.vars ≤ l.set-index * 2 ^ 46; few_clauses : l.clauses ≤ l.set-index * 2 ^ 49 }
