use Rattle.std.proofs.Common.{◌≡◌, ◌≤◌, ◌*◌, ◌^◌, length, take}
use Rattle.std.specs.List.{sum_by}
use Rattle.cnf_core.specs.Counter.{at_most_size, at_most_vars}
use Rattle.slot_capacity.proofs.counts.limits_sizes.Given as goal

abbrev pub invariant-loop-limit : goal.invariant-loop-limit
invariant-loop-limit l = record {
  vars_are : l.vars ≡ sum_by (λ m. at_most_vars m.most (length m.due)) (take l.limit-index l.limits);
  clauses_are : l.clauses ≡ sum_by (λ m. at_most_size m.most (length m.due)) (take l.limit-index l.limits);
  few_vars : l.vars ≤ l.limit-index * 2 ^ 40;
  few_clauses : l.clauses ≤ l.limit-index * 2 ^ 40;
}
