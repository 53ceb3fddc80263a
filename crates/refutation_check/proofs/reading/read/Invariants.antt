use Rattle.std.proofs.Common.{◌+◌, ◌≤◌, length}
use Rattle.refutation_check.specs.LineWords.{AreLinesAt}
use Rattle.refutation_check.proofs.reading.read.Given as goal

abbrev pub invariant-loop-done : goal.invariant-loop-done
invariant-loop-done l = AreLinesAt l.text l.from l.done l.lines × (l.from + l.done ≤ length l.text)
