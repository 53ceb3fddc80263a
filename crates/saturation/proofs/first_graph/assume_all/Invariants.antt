use Rattle.std.proofs.Common.{map, take}
use Rattle.goal_meaning.specs.Views.{assume_view}
use Rattle.saturation.specs.OverLets.{AreAssumedOver}
use Rattle.saturation.specs.GoalTerms.{assumed_pair}
use Rattle.saturation.proofs.first_graph.assume_all.Given as goal

abbrev pub invariant-loop-assume : goal.invariant-loop-assume
invariant-loop-assume l = AreAssumedOver l.lets (map assumed_pair (take l.assume-index (map assume_view l.assumes))) l.fn.graph l.graph
