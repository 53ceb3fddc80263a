use Rattle.std.proofs.Common.{◌≤◌, ◌∙◌, List, ap, subst}
use Rattle.std.specs.Prelude.{length}
use Rattle.std.proofs.lemmas.List.{take_all}
use Rattle.graph_meaning.specs.declared.graphs.LaunchGraph.{LaunchGraph}
use Rattle.graph_meaning.specs.declared.graphs.SetClass.{SetClass}
use Rattle.cycle_encoding.specs.Variables.{all_overwritten}
use Rattle.cycle_encoding.specs.Shapes.{numbered}
use Rattle.cycle_encoding.specs.Steps.{with_clauses}
use Rattle.order_encoding.specs.LiveVariables.{all_needs, pooled_classes}
use Rattle.order_encoding.specs.LiveFamilies.{target_groups}
use Rattle.order_encoding.proofs.TargetSteps.{last_step, last_room}
use Rattle.order_encoding.proofs.needs.add_last_needs.Goals as goal

pub add_last_need-requires-clause-room : goal.add_last_need-requires-clause-room
add_last_need-requires-clause-room c =
    let g = c.args.live.now.facts.now in
    let k = c.args.live.now.needs.cycles in
    let xs = numbered 0 c.args.live.now.launches.now in
    let ns = numbered c.args.live.now.needs.first (all_needs k (pooled_classes g xs)) in
    let vs = numbered c.args.live.now.over.now.first (all_overwritten g c.args.live.now.over.now.cycles) in
    last_room g k xs ns vs c.as_slice-set-items.result.now g.sets c.loop-set.set-index c.set-item.result c.args.cnf.now c.loop-set.cnf (c.as_slice-set-items.ensures ∙ ap (λ (g : LaunchGraph). g.sets) c.graph.ensures) c.loop-set-test.true c.set-item.is c.loop-set.invariant c.requires.room

pub loop-set-preserved : goal.loop-set-preserved
loop-set-preserved c =
    let g = c.args.live.now.facts.now in
    let k = c.args.live.now.needs.cycles in
    let xs = numbered 0 c.args.live.now.launches.now in
    let ns = numbered c.args.live.now.needs.first (all_needs k (pooled_classes g xs)) in
    let vs = numbered c.args.live.now.over.now.first (all_overwritten g c.args.live.now.over.now.cycles) in
    last_step g k xs ns vs c.as_slice-set-items.result.now g.sets c.loop-set.set-index c.set-item.result c.args.cnf.now c.loop-set.cnf (c.as_slice-set-items.ensures ∙ ap (λ (g : LaunchGraph). g.sets) c.graph.ensures) c.loop-set-test.true c.set-item.is c.loop-set.invariant c.add_last_need.new.cnf c.in_ok-add_last_need.ensures

pub returns : goal.returns
returns c =
    let g = c.args.live.now.facts.now in
    let k = c.args.live.now.needs.cycles in
    let xs = numbered 0 c.args.live.now.launches.now in
    let ns = numbered c.args.live.now.needs.first (all_needs k (pooled_classes g xs)) in
    let vs = numbered c.args.live.now.over.now.first (all_overwritten g c.args.live.now.over.now.cycles) in
    let same = c.as_slice-set-items.ensures ∙ ap (λ (g : LaunchGraph). g.sets) c.graph.ensures in
    c.loop-set.invariant ∙ ap (λ (sets : List SetClass). with_clauses c.args.cnf.now (target_groups g k xs ns vs sets)) (take_all c.loop-set.set-index g.sets (subst (λ (sets : List SetClass). length sets ≤ c.loop-set.set-index) same c.loop-set-test.false))
