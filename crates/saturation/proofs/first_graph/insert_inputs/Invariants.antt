use Rattle.std.proofs.Common.{[], take}
use Rattle.saturation.specs.OverLets.{AreInsertedOver}
use Rattle.saturation.specs.GoalTerms.{input_terms}
use Rattle.saturation.proofs.first_graph.insert_inputs.Given as goal

abbrev pub invariant-loop-input : goal.invariant-loop-input
invariant-loop-input l = AreInsertedOver [] (take l.input-index (input_terms l.inputs)) l.fn.graph l.graph
