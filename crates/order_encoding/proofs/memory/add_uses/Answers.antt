use Rattle.std.proofs.Common.{◌+◌, ◌++◌, refl, arith}
use Rattle.std.specs.List.{range_with_len}
use Rattle.schedule_meaning.specs.declared.schedules.Launch.{Launch}
use Rattle.cycle_encoding.specs.Shapes.{numbered}
use Rattle.cycle_encoding.proofs.Adding.{implied_step, implied_room}
use Rattle.order_encoding.specs.OrderVariables.{all_held}
use Rattle.order_encoding.specs.OrderFamilies.{uses_held, leaves}
use Rattle.order_encoding.proofs.memory.add_uses.Goals as goal

pub add_use-requires-clause-room : goal.add_use-requires-clause-room
add_use-requires-clause-room c =
    let g = c.args.vars.now.facts.now in
    let ms = numbered c.args.vars.now.held.first (all_held g c.args.vars.now.held.cycles) in
    let ws = numbered c.args.vars.now.stores (range_with_len 0 c.args.vars.now.held.cycles) in
    implied_room (λ (x : Launch). uses_held g ms x ++ leaves g ms ws x) 0 c.args.vars.now.launches.now c.loop-index.index _ c.args.cnf.now c.loop-index.cnf c.loop-index-test.true c.loop-index.invariant c.requires.room

pub loop-index-preserved : goal.loop-index-preserved
loop-index-preserved c =
    let g = c.args.vars.now.facts.now in
    let ms = numbered c.args.vars.now.held.first (all_held g c.args.vars.now.held.cycles) in
    let ws = numbered c.args.vars.now.stores (range_with_len 0 c.args.vars.now.held.cycles) in
    implied_step (λ (x : Launch). uses_held g ms x ++ leaves g ms ws x) 0 c.args.vars.now.launches.now c.loop-index.index _ c.args.cnf.now c.loop-index.cnf c.loop-index-test.true c.loop-index.invariant (c.loop-index.index + 1) c.add_use.new.cnf _ (omega arith) refl c.in_ok-add_use.ensures
