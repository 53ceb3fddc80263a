use Rattle.std.proofs.Common.{take}
use Rattle.refutation_check.proofs.Assuming.{AssumedSoFar}
use Rattle.refutation_check.proofs.lines.assume.Given as goal

abbrev pub invariant-loop-lit : goal.invariant-loop-lit
invariant-loop-lit l = AssumedSoFar l.line l.marks (take l.lit-index l.lits)
