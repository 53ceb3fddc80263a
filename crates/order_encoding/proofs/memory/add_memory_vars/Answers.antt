use Rattle.std.proofs.Common.{◌+◌, List, ap, arith}
use Rattle.std.specs.Prelude.{length}
use Rattle.cnf_core.specs.Formula.{Formula}
use Rattle.order_encoding.specs.OrderVariables.{Held}
use Rattle.order_encoding.proofs.HeldPlaces.{held-classes}
use Rattle.order_encoding.proofs.HeldSteps.{next-place, place-within, all-taken}
use Rattle.order_encoding.proofs.AddSteps.{more_vars, vars_and_vars}
use Rattle.order_encoding.proofs.memory.add_memory_vars.Goals as goal

pub add_vars-requires : goal.add_vars-requires
add_vars-requires c =
    let held = c.args.held.now in
    let w = place-within held.cycles 0 0 c.as_slice-class-items.result.now held.classes.items c.loop-class._class-index 0 c.as_slice-class-items.ensures.value c.loop-class-test.true (omega arith) in
    let e = ap (λ (xs : List Held). length xs) (held-classes c.args.facts.now held.cycles held.classes.items held.starts.items c.requires.held) in
    let v = ap (λ (f : Formula). f.vars) c.loop-class.invariant in
    let few = c.requires.few in
    omega arith

pub loop-class-preserved : goal.loop-class-preserved
loop-class-preserved c =
    let held = c.args.held.now in
    let n = next-place held.cycles 0 0 c.as_slice-class-items.result.now held.classes.items c.loop-class._class-index 0 c.as_slice-class-items.ensures.value c.loop-class-test.true (omega arith) in
    more_vars c.args.cnf.now c.loop-class.cnf c.add_vars.new.cnf _ (held.cycles + 1) _ c.loop-class.invariant c.add_vars.ensures n

pub add_vars-requires-2 : goal.add_vars-requires-2
add_vars-requires-2 c =
    let held = c.args.held.now in
    let e = ap (λ (xs : List Held). length xs) (all-taken c.args.facts.now held.cycles held.classes.items held.starts.items c.as_slice-class-items.result.now c.loop-class._class-index c.requires.held c.as_slice-class-items.ensures.value (omega arith)) in
    let v = ap (λ (f : Formula). f.vars) c.loop-class.invariant in
    let few = c.requires.few in
    omega arith

pub returns-clause-value : goal.returns-clause-value
returns-clause-value c =
    let held = c.args.held.now in
    let e = ap (λ (xs : List Held). length xs) (all-taken c.args.facts.now held.cycles held.classes.items held.starts.items c.as_slice-class-items.result.now c.loop-class._class-index c.requires.held c.as_slice-class-items.ensures.value (omega arith)) in
    let v = ap (λ (f : Formula). f.vars) c.loop-class.invariant in
    let r = c.vars-before_stores.ensures.value in
    omega arith

pub returns-clause-vars : goal.returns-clause-vars
returns-clause-vars c =
    let held = c.args.held.now in
    let e = ap (λ (xs : List Held). length xs) (all-taken c.args.facts.now held.cycles held.classes.items held.starts.items c.as_slice-class-items.result.now c.loop-class._class-index c.requires.held c.as_slice-class-items.ensures.value (omega arith)) in
    vars_and_vars c.args.cnf.now c.loop-class.cnf c.add_vars-2.new.cnf _ _ held.cycles c.loop-class.invariant c.add_vars-2.ensures e
