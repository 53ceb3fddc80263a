use Rattle.std.proofs.Common.{◌+◌, refl, arith}
use Rattle.cycle_encoding.proofs.Adding.{implied_step, implied_room}
use Rattle.order_encoding.specs.OrderSteps.{next_in_set}
use Rattle.order_encoding.proofs.pins.add_goes.Goals as goal

pub add_go-requires-clause-room : goal.add_go-requires-clause-room
add_go-requires-clause-room c = implied_room (next_in_set c.args.plan.now.frame.k c.args.before c.args.set) 0 c.args.plan.now.launches.now c.loop-index.index _ c.args.cnf.now c.loop-index.cnf c.loop-index-test.true c.loop-index.invariant c.requires.room

pub loop-index-preserved : goal.loop-index-preserved
loop-index-preserved c = implied_step (next_in_set c.args.plan.now.frame.k c.args.before c.args.set) 0 c.args.plan.now.launches.now c.loop-index.index _ c.args.cnf.now c.loop-index.cnf c.loop-index-test.true c.loop-index.invariant (c.loop-index.index + 1) c.add_go.new.cnf _ (omega arith) refl c.in_ok-add_go.ensures
