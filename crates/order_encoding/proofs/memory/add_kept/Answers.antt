use Rattle.std.proofs.Common.{◌+◌, refl, arith, length-append}
use Rattle.std.specs.List.{flat_map, range_with_len}
use Rattle.cycle_encoding.specs.Shapes.{numbered, implied}
use Rattle.cycle_encoding.proofs.Adding.{added, size-with}
use Rattle.cycle_encoding.proofs.Listed.{flat_more}
use Rattle.order_encoding.specs.OrderVariables.{all_held}
use Rattle.order_encoding.specs.OrderFamilies.{kept_at, store_clause, stays}
use Rattle.order_encoding.proofs.AddSteps.{flat-part}
use Rattle.order_encoding.proofs.memory.add_kept.Goals as goal

pub add_stored-requires-clause-room : goal.add_stored-requires-clause-room
add_stored-requires-clause-room c =
    let g = c.args.vars.now.facts.now in
    let k = c.args.vars.now.held.cycles in
    let t = c.loop-cycle.cycle in
    let xs = numbered 0 c.args.vars.now.launches.now in
    let ms = numbered c.args.vars.now.held.first (all_held g k) in
    let ws = numbered c.args.vars.now.stores (range_with_len 0 k) in
    let a = size-with c.args.cnf.now c.loop-cycle.cnf (flat_map (kept_at g xs ms ws) (range_with_len 0 t)) c.loop-cycle.invariant in
    let b = flat-part (kept_at g xs ms ws) t k c.loop-cycle-test.true in
    let room = c.requires.room in
    omega arith

pub add_stays-requires-clause-room : goal.add_stays-requires-clause-room
add_stays-requires-clause-room c =
    let g = c.args.vars.now.facts.now in
    let k = c.args.vars.now.held.cycles in
    let t = c.loop-cycle.cycle in
    let xs = numbered 0 c.args.vars.now.launches.now in
    let ms = numbered c.args.vars.now.held.first (all_held g k) in
    let ws = numbered c.args.vars.now.stores (range_with_len 0 k) in
    let a = size-with c.args.cnf.now c.loop-cycle.cnf (flat_map (kept_at g xs ms ws) (range_with_len 0 t)) c.loop-cycle.invariant in
    let b = flat-part (kept_at g xs ms ws) t k c.loop-cycle-test.true in
    let d = length-append (implied ws (store_clause g xs t)) (implied ms (stays ms ws t)) in
    let e = size-with c.loop-cycle.cnf c.add_stored.new.cnf (implied ws (store_clause g xs t)) c.in_ok-add_stored.ensures in
    let room = c.requires.room in
    omega arith

pub loop-cycle-preserved : goal.loop-cycle-preserved
loop-cycle-preserved c =
    let g = c.args.vars.now.facts.now in
    let k = c.args.vars.now.held.cycles in
    let t = c.loop-cycle.cycle in
    let xs = numbered 0 c.args.vars.now.launches.now in
    let ms = numbered c.args.vars.now.held.first (all_held g k) in
    let ws = numbered c.args.vars.now.stores (range_with_len 0 k) in
    let step = added c.loop-cycle.cnf c.add_stored.new.cnf c.add_stays.new.cnf (implied ms (stays ms ws t)) (implied ws (store_clause g xs t)) (kept_at g xs ms ws t) c.in_ok-add_stored.ensures c.in_ok-add_stays.ensures refl in
    added c.args.cnf.now c.loop-cycle.cnf c.add_stays.new.cnf (kept_at g xs ms ws t) (flat_map (kept_at g xs ms ws) (range_with_len 0 t)) (flat_map (kept_at g xs ms ws) (range_with_len 0 (t + 1))) c.loop-cycle.invariant step (flat_more (kept_at g xs ms ws) t)
