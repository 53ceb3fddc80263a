use Rattle.answer_texts.proofs.PartsNextGoal.{AreRead}
use Rattle.answer_texts.proofs.goal_reading.read_goals.Given as goal

abbrev pub invariant-loop-done : goal.invariant-loop-done
invariant-loop-done l = AreRead l.text l.version l.table l.from l.line l.done l.goals
