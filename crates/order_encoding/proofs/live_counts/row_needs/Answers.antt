use Rattle.std.proofs.Common.{◌∙◌, ◌<◌, ap, arith}
use Rattle.std.specs.Prelude.{length}
use Rattle.schedule_meaning.specs.Launches.{operands_at}
use Rattle.graph_meaning.specs.declared.graphs.LaunchGraph.{LaunchGraph}
use Rattle.cycle_encoding.proofs.Arities.{operands_few}
use Rattle.cycle_encoding.proofs.RowPlaces.{need_more}
use Rattle.order_encoding.specs.OrderCounts.{is_pooled_operand_in}
use Rattle.order_encoding.proofs.live_counts.row_needs.Goals as goal

pub loop-at-preserved : goal.loop-at-preserved
loop-at-preserved c =
    let g = c.args.pooled.now.frame.facts.now in
    let at = c.loop-at.at in
    let count = c.operand_count-at-end.ensures ∙ ap (λ (g : LaunchGraph). length (operands_at g c.args.row)) c.graph.ensures in
    let inside : at < length (operands_at g c.args.row) = (let lt = c.loop-at-test.true in omega arith) in
    let more = need_more (is_pooled_operand_in g c.args.pooled.now.frame.table.now c.args.pooled.now.frame.k c.args.pooled.now.frame.scope.now) (operands_at g c.args.row) at inside in
    let was = c.loop-at.invariant in
    let one = c.operand_need-count.ensures.value in
    let few = c.operand_need-count.ensures.few in
    record { is = omega (arith, was.is); small = omega (arith, was.small) }

pub returns-clause-few : goal.returns-clause-few
returns-clause-few c =
    let g = c.args.pooled.now.frame.facts.now in
    let count = c.operand_count-at-end.ensures ∙ ap (λ (g : LaunchGraph). length (operands_at g c.args.row)) c.graph.ensures in
    let few = operands_few g c.requires.frame.graph c.args.row in
    let small = c.loop-at.invariant.small in
    let end = c.loop-at.auto.at-end in
    omega arith
