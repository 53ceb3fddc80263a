use Rattle.least_launch.proofs.Behind.{AreSaidTo}
use Rattle.least_launch.proofs.tail_reading.read_tails.Given as goal

abbrev pub invariant-loop-goal : goal.invariant-loop-goal
invariant-loop-goal l = AreSaidTo l.text l.from l.line l.goals l.goal-index l.said
