use Rattle.std.proofs.Common.{◌∙◌, ◌+◌, ◌<◌, ◌^◌, List, ap, subst, sym, arith}
use Rattle.std.specs.Prelude.{length}
use Rattle.std.specs.List.{range_with_len}
use Rattle.cnf_core.specs.Formula.{Formula}
use Rattle.cycle_encoding.specs.Shapes.{numbered, implied}
use Rattle.cycle_encoding.specs.Steps.{with_clauses}
use Rattle.order_encoding.specs.OrderVariables.{Held, all_held}
use Rattle.order_encoding.specs.OrderFamilies.{stays}
use Rattle.order_encoding.proofs.HeldPlaces.{held-classes}
use Rattle.order_encoding.proofs.HeldSteps.{next-place, place-within, next-clauses, next-room, no_other_stay, all-taken}
use Rattle.order_encoding.proofs.memory.add_stays.Goals as goal

pub add_stay-requires-clause-var : goal.add_stay-requires-clause-var
add_stay-requires-clause-var c =
    let held = c.args.vars.now.held in
    let lt = c.requires.cycle in
    let w = place-within held.cycles held.first c.args.cycle c.as_slice-class-items.result.now held.classes.items c.loop-class.class-index 0 c.as_slice-class-items.ensures.value c.loop-class-test.true (omega arith) in
    let e = ap (λ (xs : List Held). length xs) (held-classes c.args.vars.now.facts.now held.cycles held.classes.items held.starts.items c.requires.held) in
    let v = c.loop-class.invariant.var in
    let same = ap (λ (f : Formula). f.vars) c.loop-class.invariant.cnf in
    let exist = c.requires.exist in
    let cycles = c.requires.cycles in
    record { above = omega arith; within = omega arith }

pub add_stay-requires-clause-room : goal.add_stay-requires-clause-room
add_stay-requires-clause-room c =
    let held = c.args.vars.now.held in
    let g = c.args.vars.now.facts.now in
    let t = c.args.cycle in
    let lt = c.requires.cycle in
    let ms = numbered held.first (all_held g held.cycles) in
    let ws = numbered c.args.vars.now.stores (range_with_len 0 held.cycles) in
    let room = next-room held.cycles held.first t c.as_slice-class-items.result.now held.classes.items c.loop-class.class-index 0 c.as_slice-class-items.ensures.value c.loop-class-test.true (omega arith) (stays ms ws t) (no_other_stay ms ws t) c.args.cnf.now c.loop-class.cnf c.loop-class.invariant.cnf
    (subst (λ (xs : List Held). length c.args.cnf.now.clauses + length (implied (numbered held.first xs) (stays ms ws t)) < 2 ^ 30) (sym (held-classes g held.cycles held.classes.items held.starts.items c.requires.held)) c.requires.room) in
    omega arith

pub overflow_add-var-in-loop-class-2 : goal.overflow_add-var-in-loop-class-2
overflow_add-var-in-loop-class-2 c =
    let held = c.args.vars.now.held in
    let lt = c.requires.cycle in
    let w = place-within held.cycles held.first c.args.cycle c.as_slice-class-items.result.now held.classes.items c.loop-class.class-index 0 c.as_slice-class-items.ensures.value c.loop-class-test.true (omega arith) in
    let e = ap (λ (xs : List Held). length xs) (held-classes c.args.vars.now.facts.now held.cycles held.classes.items held.starts.items c.requires.held) in
    let v = c.loop-class.invariant.var in
    let exist = c.requires.exist in
    let cycles = c.requires.cycles in
    let few = c.requires.few in
    omega arith

pub loop-class-preserved : goal.loop-class-preserved
loop-class-preserved c =
    let held = c.args.vars.now.held in
    let g = c.args.vars.now.facts.now in
    let t = c.args.cycle in
    let lt = c.requires.cycle in
    let ms = numbered held.first (all_held g held.cycles) in
    let ws = numbered c.args.vars.now.stores (range_with_len 0 held.cycles) in
    let n = next-place held.cycles held.first t c.as_slice-class-items.result.now held.classes.items c.loop-class.class-index 0 c.as_slice-class-items.ensures.value c.loop-class-test.true (omega arith) in
    let v = c.loop-class.invariant.var in
    record {
      var = omega arith;
      cnf = next-clauses held.cycles held.first t c.as_slice-class-items.result.now held.classes.items c.loop-class.class-index _ c.as_slice-class-items.ensures.value c.loop-class-test.true (omega arith) (stays ms ws t) (no_other_stay ms ws t) c.args.cnf.now c.loop-class.cnf c.loop-class.invariant.cnf c.add_stay.new.cnf c.loop-class.var v c.in_ok-add_stay.ensures;
    }

pub returns : goal.returns
returns c =
    let held = c.args.vars.now.held in
    let g = c.args.vars.now.facts.now in
    let t = c.args.cycle in
    let ms = numbered held.first (all_held g held.cycles) in
    let ws = numbered c.args.vars.now.stores (range_with_len 0 held.cycles) in
    c.loop-class.invariant.cnf ∙ ap (λ (xs : List Held). with_clauses c.args.cnf.now (implied (numbered held.first xs) (stays ms ws t))) (all-taken g held.cycles held.classes.items held.starts.items c.as_slice-class-items.result.now c.loop-class.class-index c.requires.held c.as_slice-class-items.ensures.value (omega arith))
