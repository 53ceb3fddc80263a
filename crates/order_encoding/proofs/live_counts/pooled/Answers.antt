use Rattle.std.proofs.Common.{◌≡◌, ◌+◌, ◌∙◌, ap, length, arith}
use Rattle.graph_meaning.specs.WellFormed.{next_class}
use Rattle.graph_meaning.specs.declared.graphs.LaunchGraph.{LaunchGraph}
use Rattle.schedule_meaning.specs.Launches.{class_at}
use Rattle.order_encoding.proofs.LiveTallies.{pooled_step, pooled_all}
use Rattle.order_encoding.proofs.live_counts.pooled.Goals as goal

pub loop-row-preserved : goal.loop-row-preserved
loop-row-preserved c =
    let g = c.args.frame.now.facts.now in
    pooled_step g c.args.frame.now.table.now c.args.frame.now.k c.args.frame.now.scope.now (next_class g.rows) c.loop-row.row c.class_at.result c.may_give.result c.loop-row.marks.items c.mark.new.marks.items
    (c.class_at.ensures ∙ ap (λ (g : LaunchGraph). class_at g c.loop-row.row) c.graph-in-loop-row.ensures)
    c.may_give.ensures c.loop-row.invariant c.mark.ensures

pub returns : goal.returns
returns c =
    let g = c.args.frame.now.facts.now in
    let end : c.loop-row.row ≡ length g.rows + 1 + length g.sets = (let a = c.loop-row-test.false in let b = c.loop-row.auto.row-end in let n = c.row_numbers-row-end.ensures.value in omega arith) in
    pooled_all g c.args.frame.now.table.now c.args.frame.now.k c.args.frame.now.scope.now (next_class g.rows) c.loop-row.row c.loop-row.marks.items end c.loop-row.invariant
