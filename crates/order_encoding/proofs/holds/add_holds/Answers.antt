use Rattle.std.proofs.Common.{◌+◌, refl, arith}
use Rattle.cycle_encoding.specs.Shapes.{numbered}
use Rattle.cycle_encoding.proofs.Adding.{implied_step, implied_room}
use Rattle.order_encoding.specs.LiveVariables.{all_holds, all_needs, pooled_classes}
use Rattle.order_encoding.specs.LiveFamilies.{holds_register}
use Rattle.order_encoding.proofs.holds.add_holds.Goals as goal

pub add_launch_holds-requires-clause-room : goal.add_launch_holds-requires-clause-room
add_launch_holds-requires-clause-room c =
    let k = c.args.live.now.needs.cycles in
    let ns = numbered c.args.live.now.needs.first (all_needs k (pooled_classes c.args.live.now.facts.now (numbered 0 c.args.live.now.launches.now))) in
    let hs = numbered c.args.first (all_holds c.args.live.now.table.now k) in
    implied_room (holds_register c.args.live.now.facts.now k ns hs) 0 c.args.live.now.launches.now c.loop-index.index _ c.args.cnf.now c.loop-index.cnf c.loop-index-test.true c.loop-index.invariant c.requires.room

pub loop-index-preserved : goal.loop-index-preserved
loop-index-preserved c =
    let k = c.args.live.now.needs.cycles in
    let ns = numbered c.args.live.now.needs.first (all_needs k (pooled_classes c.args.live.now.facts.now (numbered 0 c.args.live.now.launches.now))) in
    let hs = numbered c.args.first (all_holds c.args.live.now.table.now k) in
    implied_step (holds_register c.args.live.now.facts.now k ns hs) 0 c.args.live.now.launches.now c.loop-index.index _ c.args.cnf.now c.loop-index.cnf c.loop-index-test.true c.loop-index.invariant (c.loop-index.index + 1) c.add_launch_holds.new.cnf _ (omega arith) refl c.in_ok-add_launch_holds.ensures
