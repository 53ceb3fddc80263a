use Rattle.word_ops.proofs.LoopSteps.{AreBitsBelow}
use Rattle.word_ops.proofs.comparison.cmpbge.Given as goal

abbrev pub invariant-loop-i : goal.invariant-loop-i
invariant-loop-i l = AreBitsBelow l.a l.b l.i l.bits
