use Rattle.std.proofs.Common.{take}
use Rattle.refutation_check.specs.Marked.{NoneIsLater}
use Rattle.refutation_check.proofs.values.clear.Given as goal

abbrev pub invariant-loop-mark : goal.invariant-loop-mark
invariant-loop-mark l = NoneIsLater 0 (take l.mark-index l.marks)
