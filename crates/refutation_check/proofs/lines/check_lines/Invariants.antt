use Rattle.refutation_check.specs.Placing.{Placed}
use Rattle.refutation_check.proofs.Checking.{CheckedSoFar}
use Rattle.refutation_check.proofs.lines.check_lines.Given as goal

abbrev pub invariant-loop-at : goal.invariant-loop-at
invariant-loop-at l = CheckedSoFar (Placed l.demand l.lines) l.cnf l.lines l.at l.marks
