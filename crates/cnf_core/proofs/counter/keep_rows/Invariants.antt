use Rattle.std.proofs.Common.{◌≡◌, ◌++◌}
use Rattle.cnf_core.specs.Counter.{keeps, counter_rows}
use Rattle.cnf_core.proofs.counter.keep_rows.Given as goal

abbrev pub invariant-loop-i : goal.invariant-loop-i
invariant-loop-i l = l.clauses ≡ l.initial.clauses ++ counter_rows (keeps l.old l.width) l.i l.width
