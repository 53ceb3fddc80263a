use Rattle.std.proofs.Common.{◌+◌, ◌∷◌, [], map, arith}
use Rattle.std.specs.List.{range_with_len}
use Rattle.std.proofs.lemmas.List.Elements.{All-nil, All-cons}
use Rattle.std.proofs.lemmas.List.FromFn.{length-map-range_with_len}
use Rattle.cnf_core.specs.Formula.{IsLitOf}
use Rattle.cycle_encoding.proofs.Adding.{added, size-with, vars-with}
use Rattle.cycle_encoding.proofs.Tables.{table_more}
use Rattle.order_encoding.specs.OrderSteps.{stays_in_set}
use Rattle.order_encoding.proofs.pins.add_stays.Goals as goal

pub add_implied-requires-clause-var : goal.add_implied-requires-clause-var
add_implied-requires-clause-var c =
    let v = vars-with c.args.cnf.now c.loop-cycle.cnf (map (stays_in_set c.args.before) (range_with_len 0 c.loop-cycle.cycle)) c.loop-cycle.invariant in
    let lt = c.loop-cycle-test.true in
    let exist = c.requires.exist in
    record { above = omega arith; within = omega arith }

pub add_implied-requires-clause-lit : goal.add_implied-requires-clause-lit
add_implied-requires-clause-lit c =
    let n = c.loop-cycle.cnf.vars in
    let v = vars-with c.args.cnf.now c.loop-cycle.cnf (map (stays_in_set c.args.before) (range_with_len 0 c.loop-cycle.cycle)) c.loop-cycle.invariant in
    let lt = c.loop-cycle-test.true in
    let exist = c.requires.exist in
    All-cons (IsLitOf n) _ [] (record { above = omega arith; within = omega arith }) (All-nil (IsLitOf n))

pub add_implied-requires-clause-room : goal.add_implied-requires-clause-room
add_implied-requires-clause-room c =
    let a = size-with c.args.cnf.now c.loop-cycle.cnf (map (stays_in_set c.args.before) (range_with_len 0 c.loop-cycle.cycle)) c.loop-cycle.invariant in
    let b = length-map-range_with_len (stays_in_set c.args.before) 0 c.loop-cycle.cycle in
    let lt = c.loop-cycle-test.true in
    let room = c.requires.room in
    omega arith

pub loop-cycle-preserved : goal.loop-cycle-preserved
loop-cycle-preserved c =
    let H = stays_in_set c.args.before in
    let t = c.loop-cycle.cycle in
    added c.args.cnf.now c.loop-cycle.cnf c.add_implied.new.cnf (H t ∷ []) (map H (range_with_len 0 t)) (map H (range_with_len 0 (t + 1))) c.loop-cycle.invariant c.in_ok-add_implied.ensures (table_more H t)
