use Rattle.egraph.proofs.KeptGraphs.{none_kept}
use Rattle.egraph.proofs.graph.Egraph.new.Goals as goal

pub invariant_of-result : goal.invariant_of-result
invariant_of-result g c = none_kept g.O.Operator.signature c.new.result c.new-2.result c.new-3.result c.new-4.result c.new-5.result c.new-6.result.items c.new-7.result.items c.new-8.result.items c.new.ensures.empty c.new-6.ensures.items c.new-7.ensures.items c.new-8.ensures.items
