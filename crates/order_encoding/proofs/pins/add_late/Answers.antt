use Rattle.std.proofs.Common.{◌+◌, refl, arith}
use Rattle.std.specs.List.{range_with_len}
use Rattle.cycle_encoding.specs.Shapes.{numbered}
use Rattle.cycle_encoding.proofs.Adding.{implied_step, implied_room}
use Rattle.order_encoding.specs.PinFamilies.{overwrites_after}
use Rattle.order_encoding.proofs.pins.add_late.Goals as goal

pub add_late_one-requires-clause-room : goal.add_late_one-requires-clause-room
add_late_one-requires-clause-room c = implied_room (overwrites_after c.args.plan.now.frame.facts.now (numbered c.args.first (range_with_len 0 c.args.plan.now.frame.k))) 0 c.args.plan.now.launches.now c.loop-index.index _ c.args.cnf.now c.loop-index.cnf c.loop-index-test.true c.loop-index.invariant c.requires.room

pub loop-index-preserved : goal.loop-index-preserved
loop-index-preserved c = implied_step (overwrites_after c.args.plan.now.frame.facts.now (numbered c.args.first (range_with_len 0 c.args.plan.now.frame.k))) 0 c.args.plan.now.launches.now c.loop-index.index _ c.args.cnf.now c.loop-index.cnf c.loop-index-test.true c.loop-index.invariant (c.loop-index.index + 1) c.add_late_one.new.cnf _ (omega arith) refl c.in_ok-add_late_one.ensures
