use Rattle.std.proofs.Common.{◌≡◌, ◌++◌, map}
use Rattle.std.specs.List.{range_with_len}
use Rattle.cnf_core.specs.Counter.{counts_first}
use Rattle.cnf_core.proofs.counter.first_row.Given as goal

abbrev pub invariant-loop-i : goal.invariant-loop-i
invariant-loop-i l = l.clauses ≡ l.initial.clauses ++ map (counts_first l.old l.width l.lits) (range_with_len 0 l.i)
