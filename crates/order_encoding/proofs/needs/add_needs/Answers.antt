use Rattle.std.proofs.Common.{◌+◌, refl, arith}
use Rattle.cycle_encoding.specs.Shapes.{numbered}
use Rattle.cycle_encoding.proofs.Adding.{implied_step, implied_room}
use Rattle.order_encoding.specs.LiveVariables.{all_needs, pooled_classes}
use Rattle.order_encoding.specs.LiveFamilies.{operand_needs}
use Rattle.order_encoding.proofs.needs.add_needs.Goals as goal

pub add_launch_needs-requires-clause-room : goal.add_launch_needs-requires-clause-room
add_launch_needs-requires-clause-room c =
    let xs = numbered 0 c.args.live.now.launches.now in
    let ns = numbered c.args.live.now.needs.first (all_needs c.args.live.now.needs.cycles (pooled_classes c.args.live.now.facts.now xs)) in
    implied_room (operand_needs c.args.live.now.facts.now xs ns) 0 c.args.live.now.launches.now c.loop-index.index _ c.args.cnf.now c.loop-index.cnf c.loop-index-test.true c.loop-index.invariant c.requires.room

pub loop-index-preserved : goal.loop-index-preserved
loop-index-preserved c =
    let xs = numbered 0 c.args.live.now.launches.now in
    let ns = numbered c.args.live.now.needs.first (all_needs c.args.live.now.needs.cycles (pooled_classes c.args.live.now.facts.now xs)) in
    implied_step (operand_needs c.args.live.now.facts.now xs ns) 0 c.args.live.now.launches.now c.loop-index.index _ c.args.cnf.now c.loop-index.cnf c.loop-index-test.true c.loop-index.invariant (c.loop-index.index + 1) c.add_launch_needs.new.cnf _ (omega arith) refl c.in_ok-add_launch_needs.ensures
