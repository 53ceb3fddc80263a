use Rattle.schedule_meaning.specs.Fits.{IsReached}
use Rattle.schedule_meaning.proofs.Decide.{HoldBelow}
use Rattle.schedule_meaning.proofs.targets.are_reached.Given as goal

-- The targets so far are reached.
abbrev pub invariant-loop-number : goal.invariant-loop-number
invariant-loop-number l = HoldBelow (IsReached l.graph l.list) l.graph.sets l.number
