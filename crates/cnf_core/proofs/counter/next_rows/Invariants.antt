use Rattle.std.proofs.Common.{◌≡◌, ◌-◌, ◌++◌}
use Rattle.cnf_core.specs.Counter.{counts_next, counter_rows}
use Rattle.cnf_core.proofs.counter.next_rows.Given as goal

abbrev pub invariant-loop-i : goal.invariant-loop-i
invariant-loop-i l = l.clauses ≡ l.initial.clauses ++ counter_rows (counts_next l.old l.width l.lits) l.i (l.width - 1)
