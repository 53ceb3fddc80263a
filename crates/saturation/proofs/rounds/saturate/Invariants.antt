use Rattle.std.proofs.Common.{◌-◌}
use Rattle.saturation.proofs.LoopSteps.{Running}
use Rattle.saturation.proofs.rounds.saturate.Given as goal

abbrev pub decreases-loop-graph : goal.decreases-loop-graph
decreases-loop-graph l = l.rounds - l.done

abbrev pub invariant-loop-graph : goal.invariant-loop-graph
invariant-loop-graph l = Running l.rules l.fn.graph l.rounds l.nodes l.graph l.done
