use Rattle.std.proofs.Common.{◌∙◌, ◌==◌, List, ap, arith}
use Rattle.std.specs.Prelude.{length}
use Rattle.cycle_encoding.specs.Shapes.{numbered, vars_of}
use Rattle.order_encoding.specs.OrderVariables.{Held}
use Rattle.order_encoding.proofs.HeldPlaces.{held-classes}
use Rattle.order_encoding.proofs.HeldSteps.{next-place, place-within, next-vars, all-taken}
use Rattle.order_encoding.proofs.held_memory.held_in.Goals as goal

pub overflow_add-var-in-loop-class-2 : goal.overflow_add-var-in-loop-class-2
overflow_add-var-in-loop-class-2 c =
    let held = c.args.held.now in
    let w = place-within held.cycles held.first c.args.cycle c.as_slice-class-items.result.now held.classes.items c.loop-class._class-index 0 c.as_slice-class-items.ensures.value c.loop-class-test.true c.requires.cycle in
    let e = ap (λ (xs : List Held). length xs) (held-classes c.args.facts.now held.cycles held.classes.items held.starts.items c.requires.held) in
    let v = c.loop-class.invariant.var in
    let few = c.requires.few in
    omega arith

pub loop-class-preserved : goal.loop-class-preserved
loop-class-preserved c =
    let held = c.args.held.now in
    let n = next-place held.cycles held.first c.args.cycle c.as_slice-class-items.result.now held.classes.items c.loop-class._class-index 0 c.as_slice-class-items.ensures.value c.loop-class-test.true c.requires.cycle in
    let v = c.loop-class.invariant.var in
    record {
      var = omega arith;
      lits = next-vars held.cycles held.first c.args.cycle c.as_slice-class-items.result.now held.classes.items c.loop-class._class-index 0 c.as_slice-class-items.ensures.value c.loop-class-test.true c.requires.cycle c.loop-class.lits.items c.push.new.self.items c.loop-class.var v c.loop-class.invariant.lits c.in_ok-push.ensures.items;
    }

pub returns : goal.returns
returns c =
    let held = c.args.held.now in
    c.loop-class.invariant.lits ∙ ap (λ (xs : List Held). vars_of (λ (m : Held). m.cycle == c.args.cycle) (numbered held.first xs)) (all-taken c.args.facts.now held.cycles held.classes.items held.starts.items c.as_slice-class-items.result.now c.loop-class._class-index c.requires.held c.as_slice-class-items.ensures.value (omega arith))
