use Rattle.std.proofs.Common.{◌+◌, refl, arith}
use Rattle.cycle_encoding.specs.Shapes.{numbered}
use Rattle.cycle_encoding.proofs.Adding.{implied_step, implied_room}
use Rattle.order_encoding.specs.OrderVariables.{all_taken}
use Rattle.order_encoding.specs.PinFamilies.{takes_register}
use Rattle.order_encoding.proofs.pool.add_takes.Goals as goal

pub add_take-requires-clause-room : goal.add_take-requires-clause-room
add_take-requires-clause-room c = implied_room (takes_register c.args.facts.now (numbered c.args.taken.now.first (all_taken c.args.taken.now.table.now c.args.taken.now.k))) 0 c.args.launches.now c.loop-index.index _ c.args.cnf.now c.loop-index.cnf c.loop-index-test.true c.loop-index.invariant c.requires.room

pub loop-index-preserved : goal.loop-index-preserved
loop-index-preserved c = implied_step (takes_register c.args.facts.now (numbered c.args.taken.now.first (all_taken c.args.taken.now.table.now c.args.taken.now.k))) 0 c.args.launches.now c.loop-index.index _ c.args.cnf.now c.loop-index.cnf c.loop-index-test.true c.loop-index.invariant (c.loop-index.index + 1) c.add_take.new.cnf _ (omega arith) refl c.in_ok-add_take.ensures
