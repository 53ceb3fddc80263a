use Rattle.std.proofs.Common.{◌∙◌, ◌<◌, ap, arith}
use Rattle.std.specs.Prelude.{length}
use Rattle.schedule_meaning.specs.Launches.{operands_at}
use Rattle.graph_meaning.specs.declared.graphs.LaunchGraph.{LaunchGraph}
use Rattle.cycle_encoding.specs.Counts.{needs_clause}
use Rattle.cycle_encoding.proofs.Arities.{operands_few}
use Rattle.cycle_encoding.proofs.RowPlaces.{need_more}
use Rattle.cycle_encoding.proofs.needs_counts.needed_count.Goals as goal

pub loop-at-preserved : goal.loop-at-preserved
loop-at-preserved c =
    let g = c.args.facts.now in
    let at = c.loop-at.at in
    let count = c.operand_count-at-end.ensures ∙ ap (λ (g : LaunchGraph). length (operands_at g c.args.row)) c.graph.ensures in
    let inside : at < length (operands_at g c.args.row) = (let lt = c.loop-at-test.true in omega arith) in
    let more = need_more (needs_clause g c.args.to) (operands_at g c.args.row) at inside in
    let was = c.loop-at.invariant in
    let one = c.need_at-count.ensures.value in
    let few = c.need_at-count.ensures.few in
    record { is = omega (arith, was.is); small = omega (arith, was.small) }

pub returns-clause-few : goal.returns-clause-few
returns-clause-few c =
    let g = c.args.facts.now in
    let count = c.operand_count-at-end.ensures ∙ ap (λ (g : LaunchGraph). length (operands_at g c.args.row)) c.graph.ensures in
    let few = operands_few g c.requires.graph c.args.row in
    let small = c.loop-at.invariant.small in
    let end = c.loop-at.auto.at-end in
    omega arith
