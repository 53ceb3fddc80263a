use Rattle.std.proofs.Common.{◌≡◌, take}
use Rattle.sat_core.proofs.solver.clauses_of.Given as goal

abbrev pub invariant-loop-index : goal.invariant-loop-index
invariant-loop-index l = l.clauses ≡ take l.index l.cnf.clauses
