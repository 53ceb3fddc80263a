use Rattle.std.proofs.Common.{◌<◌, ◌+◌, ◌^◌, ◌∙◌, Option, Some, ap, sym, subst}
use Rattle.std.specs.Prelude.{length, slice_get}
use Rattle.graph_meaning.specs.declared.graphs.LaunchGraph.{LaunchGraph}
use Rattle.schedule_meaning.specs.Launches.{operands_at}
use Rattle.schedule_meaning.specs.declared.schedules.Operand.{Operand}
use Rattle.cycle_encoding.specs.Facts.{one_or_none}
use Rattle.cycle_encoding.specs.Shapes.{numbered}
use Rattle.cycle_encoding.specs.Steps.{of_thing, with_clauses}
use Rattle.cycle_encoding.proofs.Adding.{with-none}
use Rattle.order_encoding.specs.LiveVariables.{all_needs, pooled_classes}
use Rattle.order_encoding.specs.LiveFamilies.{operands_needed}
use Rattle.order_encoding.proofs.AddSteps.{then_is}
use Rattle.order_encoding.proofs.needs.add_need_at.Goals as goal

pub add_need_of-requires-clause-room : goal.add_need_of-requires-clause-room
add_need_of-requires-clause-room c =
    let g = c.args.live.now.facts.now in
    let xs = numbered 0 c.args.live.now.launches.now in
    let ns = numbered c.args.live.now.needs.first (all_needs c.args.live.now.needs.cycles (pooled_classes g xs)) in
    let at = c.in-Some.ensures ∙ ap (λ (g : LaunchGraph). slice_get (operands_at g c.args.made.launch.row) c.args.at) c.graph.ensures in
    subst (λ (o : Option Operand). length c.args.cnf.now.clauses + length (operands_needed g xs ns c.args.made.launch.cycle (one_or_none o)) < 2 ^ 30) (sym at) c.requires.room

pub returns-in-Some : goal.returns-in-Some
returns-in-Some c =
    let g = c.args.live.now.facts.now in
    let xs = numbered 0 c.args.live.now.launches.now in
    let ns = numbered c.args.live.now.needs.first (all_needs c.args.live.now.needs.cycles (pooled_classes g xs)) in
    let at = c.in-Some.ensures ∙ ap (λ (g : LaunchGraph). slice_get (operands_at g c.args.made.launch.row) c.args.at) c.graph.ensures in
    then_is c.add_need_of.result c.args.cnf.now c.add_need_of.new.cnf (of_thing c.args.made.var (operands_needed g xs ns c.args.made.launch.cycle (one_or_none (Some c.in-Some.operand)))) (of_thing c.args.made.var (operands_needed g xs ns c.args.made.launch.cycle (one_or_none (slice_get (operands_at g c.args.made.launch.row) c.args.at))))
    (ap (λ (o : Option Operand). of_thing c.args.made.var (operands_needed g xs ns c.args.made.launch.cycle (one_or_none o))) at) c.add_need_of.ensures

pub returns-in-None : goal.returns-in-None
returns-in-None c =
    let g = c.args.live.now.facts.now in
    let xs = numbered 0 c.args.live.now.launches.now in
    let ns = numbered c.args.live.now.needs.first (all_needs c.args.live.now.needs.cycles (pooled_classes g xs)) in
    let at = c.in-None.ensures ∙ ap (λ (g : LaunchGraph). slice_get (operands_at g c.args.made.launch.row) c.args.at) c.graph.ensures in
    with-none c.args.cnf.now ∙ ap (λ (o : Option Operand). with_clauses c.args.cnf.now (of_thing c.args.made.var (operands_needed g xs ns c.args.made.launch.cycle (one_or_none o)))) at
