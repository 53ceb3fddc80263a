use Rattle.std.proofs.Common.{map, take}
use Rattle.goal_meaning.specs.Views.{assume_view}
use Rattle.saturation.specs.OverLets.{AreInsertedOver}
use Rattle.saturation.specs.GoalTerms.{assume_terms}
use Rattle.saturation.proofs.first_graph.insert_assumes.Given as goal

abbrev pub invariant-loop-assume : goal.invariant-loop-assume
invariant-loop-assume l = AreInsertedOver l.lets (assume_terms (take l.assume-index (map assume_view l.assumes))) l.fn.graph l.graph
