use Rattle.refute_trim.proofs.Reporting.{AreTrimmedTo}
use Rattle.refute_trim.proofs.answers.trim_answer.Given as goal

abbrev pub invariant-loop-goal : goal.invariant-loop-goal
invariant-loop-goal l = AreTrimmedTo l.answer l.goal-index l.text.items
