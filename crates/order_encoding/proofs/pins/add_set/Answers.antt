use Rattle.std.proofs.Common.{map, refl, arith}
use Rattle.std.specs.List.{range_with_len}
use Rattle.std.proofs.lemmas.List.{length-append}
use Rattle.std.proofs.lemmas.List.FromFn.{length-map-range_with_len}
use Rattle.cycle_encoding.specs.Shapes.{numbered, implied}
use Rattle.cycle_encoding.proofs.Adding.{size-with, vars-with}
use Rattle.order_encoding.specs.OrderSteps.{next_in_set, stays_in_set, clauses_in_set}
use Rattle.order_encoding.proofs.AddSteps.{then_more}
use Rattle.order_encoding.proofs.pins.add_set.Goals as goal

pub add_goes-requires-clause-room : goal.add_goes-requires-clause-room
add_goes-requires-clause-room c =
    let goes = implied (numbered 0 c.args.plan.now.launches.now) (next_in_set c.args.plan.now.frame.k c.args.before c.args.set) in
    let stays = map (stays_in_set c.args.before) (range_with_len 0 c.args.plan.now.frame.k) in
    let a = length-append goes stays in
    let room = c.requires.room in
    omega arith

pub add_stays-requires-clause-exist : goal.add_stays-requires-clause-exist
add_stays-requires-clause-exist c =
    let goes = implied (numbered 0 c.args.plan.now.launches.now) (next_in_set c.args.plan.now.frame.k c.args.before c.args.set) in
    let v = vars-with c.args.cnf.now c.add_goes.new.cnf goes c.in_ok-add_goes.ensures in
    let exist = c.requires.exist in
    let few = c.requires.few in
    omega arith

pub add_stays-requires-clause-few : goal.add_stays-requires-clause-few
add_stays-requires-clause-few c =
    let goes = implied (numbered 0 c.args.plan.now.launches.now) (next_in_set c.args.plan.now.frame.k c.args.before c.args.set) in
    let v = vars-with c.args.cnf.now c.add_goes.new.cnf goes c.in_ok-add_goes.ensures in
    let exist = c.requires.exist in
    let few = c.requires.few in
    omega arith

pub add_stays-requires-clause-room : goal.add_stays-requires-clause-room
add_stays-requires-clause-room c =
    let goes = implied (numbered 0 c.args.plan.now.launches.now) (next_in_set c.args.plan.now.frame.k c.args.before c.args.set) in
    let stays = map (stays_in_set c.args.before) (range_with_len 0 c.args.plan.now.frame.k) in
    let a = length-append goes stays in
    let b = length-map-range_with_len (stays_in_set c.args.before) 0 c.args.plan.now.frame.k in
    let d = size-with c.args.cnf.now c.add_goes.new.cnf goes c.in_ok-add_goes.ensures in
    let room = c.requires.room in
    omega arith

pub returns : goal.returns
returns c =
    let goes = implied (numbered 0 c.args.plan.now.launches.now) (next_in_set c.args.plan.now.frame.k c.args.before c.args.set) in
    let stays = map (stays_in_set c.args.before) (range_with_len 0 c.args.plan.now.frame.k) in
    then_more c.add_stays.result c.args.cnf.now c.add_goes.new.cnf c.add_stays.new.cnf goes stays (clauses_in_set c.args.plan.now.frame.k (numbered 0 c.args.plan.now.launches.now) c.args.before c.args.set) c.in_ok-add_goes.ensures refl c.add_stays.ensures
