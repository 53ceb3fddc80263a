use Rattle.std.proofs.Common.{◌∙◌, ◌+◌, ◌<◌, ◌^◌, List, ap, subst, sym, arith}
use Rattle.std.specs.Prelude.{length}
use Rattle.cnf_core.specs.Formula.{Formula}
use Rattle.cycle_encoding.specs.Shapes.{numbered, implied}
use Rattle.cycle_encoding.specs.Steps.{with_clauses}
use Rattle.order_encoding.specs.OrderVariables.{Held}
use Rattle.order_encoding.specs.OrderFamilies.{not_at_entry}
use Rattle.order_encoding.proofs.HeldPlaces.{held-classes}
use Rattle.order_encoding.proofs.HeldSteps.{next-place, place-within, next-clauses, next-room, no_other_entry, all-taken}
use Rattle.order_encoding.proofs.held_memory.add_others.Goals as goal

pub add_other-requires-clause-var : goal.add_other-requires-clause-var
add_other-requires-clause-var c =
    let held = c.args.held.now in
    let w = place-within held.cycles held.first 0 c.as_slice-class-items.result.now held.classes.items c.loop-class.class-index 0 c.as_slice-class-items.ensures.value c.loop-class-test.true (omega arith) in
    let e = ap (λ (xs : List Held). length xs) (held-classes c.args.facts.now held.cycles held.classes.items held.starts.items c.requires.held) in
    let v = c.loop-class.invariant.var in
    let same = ap (λ (f : Formula). f.vars) c.loop-class.invariant.cnf in
    let exist = c.requires.exist in
    record { above = omega arith; within = omega arith }

pub add_other-requires-clause-room : goal.add_other-requires-clause-room
add_other-requires-clause-room c =
    let held = c.args.held.now in
    let g = c.args.facts.now in
    next-room held.cycles held.first 0 c.as_slice-class-items.result.now held.classes.items c.loop-class.class-index _ c.as_slice-class-items.ensures.value c.loop-class-test.true (omega arith) (not_at_entry g) (no_other_entry g) c.args.cnf.now c.loop-class.cnf c.loop-class.invariant.cnf
    (subst (λ (xs : List Held). length c.args.cnf.now.clauses + length (implied (numbered held.first xs) (not_at_entry g)) < 2 ^ 30) (sym (held-classes g held.cycles held.classes.items held.starts.items c.requires.held)) c.requires.room)

pub overflow_add-var-in-loop-class : goal.overflow_add-var-in-loop-class
overflow_add-var-in-loop-class c =
    let held = c.args.held.now in
    let w = place-within held.cycles held.first 0 c.as_slice-class-items.result.now held.classes.items c.loop-class.class-index 0 c.as_slice-class-items.ensures.value c.loop-class-test.true (omega arith) in
    let e = ap (λ (xs : List Held). length xs) (held-classes c.args.facts.now held.cycles held.classes.items held.starts.items c.requires.held) in
    let exist = c.requires.exist in
    let few = c.requires.few in
    omega arith

pub overflow_add-var-in-loop-class-2 : goal.overflow_add-var-in-loop-class-2
overflow_add-var-in-loop-class-2 c =
    let held = c.args.held.now in
    let w = place-within held.cycles held.first 0 c.as_slice-class-items.result.now held.classes.items c.loop-class.class-index 0 c.as_slice-class-items.ensures.value c.loop-class-test.true (omega arith) in
    let e = ap (λ (xs : List Held). length xs) (held-classes c.args.facts.now held.cycles held.classes.items held.starts.items c.requires.held) in
    let v = c.loop-class.invariant.var in
    let exist = c.requires.exist in
    let few = c.requires.few in
    omega arith

pub loop-class-preserved : goal.loop-class-preserved
loop-class-preserved c =
    let held = c.args.held.now in
    let g = c.args.facts.now in
    let n = next-place held.cycles held.first 0 c.as_slice-class-items.result.now held.classes.items c.loop-class.class-index 0 c.as_slice-class-items.ensures.value c.loop-class-test.true (omega arith) in
    let v = c.loop-class.invariant.var in
    record {
      var = omega arith;
      cnf = next-clauses held.cycles held.first 0 c.as_slice-class-items.result.now held.classes.items c.loop-class.class-index _ c.as_slice-class-items.ensures.value c.loop-class-test.true (omega arith) (not_at_entry g) (no_other_entry g) c.args.cnf.now c.loop-class.cnf c.loop-class.invariant.cnf c.add_other.new.cnf c.loop-class.var (omega arith) c.in_ok-add_other.ensures;
    }

pub returns : goal.returns
returns c =
    let held = c.args.held.now in
    let g = c.args.facts.now in
    c.loop-class.invariant.cnf ∙ ap (λ (xs : List Held). with_clauses c.args.cnf.now (implied (numbered held.first xs) (not_at_entry g))) (all-taken g held.cycles held.classes.items held.starts.items c.as_slice-class-items.result.now c.loop-class.class-index c.requires.held c.as_slice-class-items.ensures.value (omega arith))
