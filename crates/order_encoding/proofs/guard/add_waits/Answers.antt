use Rattle.std.proofs.Common.{◌+◌, refl, arith}
use Rattle.std.specs.List.{range_with_len}
use Rattle.cycle_encoding.specs.Shapes.{numbered}
use Rattle.cycle_encoding.proofs.Adding.{implied_step, implied_room}
use Rattle.order_encoding.specs.OrderFamilies.{comes_after}
use Rattle.order_encoding.proofs.guard.add_waits.Goals as goal

pub add_wait-requires-clause-room : goal.add_wait-requires-clause-room
add_wait-requires-clause-room c = implied_room (comes_after c.args.plan.now.frame.facts.now (numbered c.args.first (range_with_len 0 c.args.plan.now.frame.k))) 0 c.args.plan.now.launches.now c.loop-index.index _ c.args.cnf.now c.loop-index.cnf c.loop-index-test.true c.loop-index.invariant c.requires.room

pub loop-index-preserved : goal.loop-index-preserved
loop-index-preserved c = implied_step (comes_after c.args.plan.now.frame.facts.now (numbered c.args.first (range_with_len 0 c.args.plan.now.frame.k))) 0 c.args.plan.now.launches.now c.loop-index.index _ c.args.cnf.now c.loop-index.cnf c.loop-index-test.true c.loop-index.invariant (c.loop-index.index + 1) c.add_wait.new.cnf _ (omega arith) refl c.in_ok-add_wait.ensures
