use Rattle.std.proofs.Common.{◌∙◌, ap}
use Rattle.graph_meaning.specs.declared.graphs.LaunchGraph.{LaunchGraph}
use Rattle.cycle_encoding.specs.Variables.{all_overwritten}
use Rattle.cycle_encoding.specs.Shapes.{numbered}
use Rattle.cycle_encoding.proofs.FamilySteps.{target_step, target_room}
use Rattle.cycle_encoding.proofs.families.add_targets.Goals as goal

pub add_target-requires-clause-room : goal.add_target-requires-clause-room
add_target-requires-clause-room c = target_room c.args.vars.now.frame.facts.now c.args.vars.now.over.cycles (numbered 0 c.args.vars.now.launches.now) (numbered c.args.vars.now.over.first (all_overwritten c.args.vars.now.frame.facts.now c.args.vars.now.over.cycles)) c.as_slice-set-items.result.now c.args.vars.now.frame.facts.now.sets c.loop-set.set-index c.set-item.result c.args.cnf.now c.loop-set.cnf (c.as_slice-set-items.ensures ∙ ap (λ (g : LaunchGraph). g.sets) c.graph.ensures) c.loop-set-test.true c.set-item.is c.loop-set.invariant c.requires.room

pub loop-set-preserved : goal.loop-set-preserved
loop-set-preserved c = target_step c.args.vars.now.frame.facts.now c.args.vars.now.over.cycles (numbered 0 c.args.vars.now.launches.now) (numbered c.args.vars.now.over.first (all_overwritten c.args.vars.now.frame.facts.now c.args.vars.now.over.cycles)) c.as_slice-set-items.result.now c.args.vars.now.frame.facts.now.sets c.loop-set.set-index c.set-item.result c.args.cnf.now c.loop-set.cnf (c.as_slice-set-items.ensures ∙ ap (λ (g : LaunchGraph). g.sets) c.graph.ensures) c.loop-set-test.true c.set-item.is c.loop-set.invariant c.add_target.new.cnf c.in_ok-add_target.ensures
