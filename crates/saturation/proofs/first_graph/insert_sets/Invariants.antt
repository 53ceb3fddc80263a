use Rattle.std.proofs.Common.{map, take}
use Rattle.goal_meaning.specs.Views.{target_view}
use Rattle.saturation.specs.OverLets.{AreInsertedOver}
use Rattle.saturation.specs.GoalTerms.{set_terms}
use Rattle.saturation.proofs.first_graph.insert_sets.Given as goal

abbrev pub invariant-loop-set : goal.invariant-loop-set
invariant-loop-set l = AreInsertedOver l.lets (take l.set-index (set_terms (map target_view l.sets))) l.fn.graph l.graph
