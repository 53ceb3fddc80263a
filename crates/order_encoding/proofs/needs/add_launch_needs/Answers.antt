use Rattle.std.proofs.Common.{◌≤◌, ◌<◌, ◌∙◌, List, ap, arith}
use Rattle.std.specs.Prelude.{length}
use Rattle.std.proofs.lemmas.List.{take_all}
use Rattle.graph_meaning.specs.declared.graphs.LaunchGraph.{LaunchGraph}
use Rattle.schedule_meaning.specs.Launches.{operands_at}
use Rattle.schedule_meaning.specs.declared.schedules.Operand.{Operand}
use Rattle.cycle_encoding.specs.Shapes.{numbered}
use Rattle.cycle_encoding.specs.Steps.{of_thing, with_clauses}
use Rattle.order_encoding.specs.LiveVariables.{all_needs, pooled_classes}
use Rattle.order_encoding.specs.LiveFamilies.{operands_needed}
use Rattle.order_encoding.proofs.NeedSteps.{operand_step, operand_room}
use Rattle.order_encoding.proofs.needs.add_launch_needs.Goals as goal

pub add_need_at-requires-clause-room : goal.add_need_at-requires-clause-room
add_need_at-requires-clause-room c =
    let g = c.args.live.now.facts.now in
    let row = c.args.made.launch.row in
    let at = c.loop-at.at in
    let xs = numbered 0 c.args.live.now.launches.now in
    let ns = numbered c.args.live.now.needs.first (all_needs c.args.live.now.needs.cycles (pooled_classes g xs)) in
    let count = c.operand_count-at-end.ensures ∙ ap (λ (g : LaunchGraph). length (operands_at g row)) c.graph.ensures in
    let inside : at < length (operands_at g row) = (let lt = c.loop-at-test.true in omega arith) in
    operand_room g xs ns c.args.made.launch.cycle (operands_at g row) at inside c.args.made.var c.args.cnf.now c.loop-at.cnf c.loop-at.invariant c.requires.room

pub loop-at-preserved : goal.loop-at-preserved
loop-at-preserved c =
    let g = c.args.live.now.facts.now in
    let row = c.args.made.launch.row in
    let at = c.loop-at.at in
    let xs = numbered 0 c.args.live.now.launches.now in
    let ns = numbered c.args.live.now.needs.first (all_needs c.args.live.now.needs.cycles (pooled_classes g xs)) in
    let count = c.operand_count-at-end.ensures ∙ ap (λ (g : LaunchGraph). length (operands_at g row)) c.graph.ensures in
    let inside : at < length (operands_at g row) = (let lt = c.loop-at-test.true in omega arith) in
    operand_step g xs ns c.args.made.launch.cycle (operands_at g row) at inside c.args.made.var c.args.cnf.now c.loop-at.cnf c.loop-at.invariant c.add_need_at.new.cnf c.in_ok-add_need_at.ensures

pub returns : goal.returns
returns c =
    let g = c.args.live.now.facts.now in
    let row = c.args.made.launch.row in
    let xs = numbered 0 c.args.live.now.launches.now in
    let ns = numbered c.args.live.now.needs.first (all_needs c.args.live.now.needs.cycles (pooled_classes g xs)) in
    let count = c.operand_count-at-end.ensures ∙ ap (λ (g : LaunchGraph). length (operands_at g row)) c.graph.ensures in
    let all : length (operands_at g row) ≤ c.loop-at.at = (let a = c.loop-at-test.false in omega arith) in
    c.loop-at.invariant ∙ ap (λ (os : List Operand). with_clauses c.args.cnf.now (of_thing c.args.made.var (operands_needed g xs ns c.args.made.launch.cycle os))) (take_all c.loop-at.at (operands_at g row) all)
