use Rattle.text_core.specs.Lines.{line_at}
use Rattle.refutation_check.specs.LineWords.{literal_word, IsIdLiteral}
use Rattle.refutation_check.proofs.Runs.{SoFar}
use Rattle.refutation_check.proofs.Wording.{literal-not_zero}
use Rattle.refutation_check.proofs.reading.literals.Given as goal

abbrev pub invariant-loop-at : goal.invariant-loop-at
invariant-loop-at l = SoFar literal_word IsIdLiteral literal-not_zero (line_at l.text l.line).words l.from l.lits l.at
