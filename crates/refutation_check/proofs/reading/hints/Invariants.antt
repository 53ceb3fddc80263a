use Rattle.std.proofs.Common.{decimal}
use Rattle.text_core.specs.Lines.{line_at}
use Rattle.refutation_check.specs.LineWords.{IsId}
use Rattle.refutation_check.proofs.Runs.{SoFar}
use Rattle.refutation_check.proofs.Wording.{id-not_zero}
use Rattle.refutation_check.proofs.reading.hints.Given as goal

abbrev pub invariant-loop-at : goal.invariant-loop-at
invariant-loop-at l = SoFar decimal IsId id-not_zero (line_at l.text l.line).words l.from l.ids l.at
