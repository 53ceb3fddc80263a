use Rattle.std.proofs.Common.{◌≡◌, ◌∙◌, ap, arith}
use Rattle.graph_meaning.specs.WellFormed.{next_class}
use Rattle.graph_meaning.specs.declared.graphs.LaunchGraph.{LaunchGraph}
use Rattle.order_encoding.proofs.NeedTables.{need_table}
use Rattle.order_encoding.proofs.needs.need_vars.Goals as goal

pub returns-clause-needs : goal.returns-clause-needs
returns-clause-needs c =
    let g = c.args.facts.now in
    let end : c.loop-class.class ≡ next_class g.rows = (let a = c.loop-class-test.false in let b = c.loop-class.auto.class-end in let n = c.next_class-class-end.ensures ∙ ap (λ (g : LaunchGraph). next_class g.rows) c.graph.ensures in omega arith) in
    need_table g c.args.k c.args.launches.now c.loop-class.classes.items c.loop-class.starts.items c.requires.graph c.loop-class.class end c.loop-class.invariant.classes c.loop-class.invariant.starts
