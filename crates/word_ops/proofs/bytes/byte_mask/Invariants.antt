use Rattle.word_ops.proofs.LoopSteps.{IsMaskBelow}
use Rattle.word_ops.proofs.bytes.byte_mask.Given as goal

abbrev pub invariant-loop-i : goal.invariant-loop-i
invariant-loop-i l = IsMaskBelow l.mask l.i l.kept
