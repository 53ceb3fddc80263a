use Rattle.std.proofs.Common.{◌≡◌, ◌++◌, map}
use Rattle.std.specs.List.{range_with_len}
use Rattle.cnf_core.specs.Counter.{counts_next}
use Rattle.cnf_core.proofs.counter.next_row.Given as goal

abbrev pub invariant-loop-j : goal.invariant-loop-j
invariant-loop-j l = l.clauses ≡ l.initial.clauses ++ map (counts_next l.old l.width l.lits l.i) (range_with_len 0 l.j)
