use Rattle.std.proofs.Common.{ℕ, [], take, IfOk, sym, subst, subst₂, arith}
use Rattle.word_terms.specs.Tree.{operands_of}
use Rattle.word_terms.specs.View.{trees_of}
use Rattle.saturation.specs.Trace.{CanBuild, IsBuilt, AreBuilt, none_built}
use Rattle.saturation.proofs.Building.{CanInsert, insert_can, inserted_built, are_built_push, one_more, all_taken, next_operand_can, next_operand_smaller, variable_in, variable_built, tree_is}
use Rattle.saturation.proofs.applying.+build.Goals as goal
use Rattle.saturation.proofs.applying.+build.Goals.{After-deref}

pub bounds-places-n : goal.bounds-places-n
bounds-places-n t c = variable_in c.args.graph.now c.args.places.now c.args.term.now c.in-Var.n c.requires.can c.in-Var.is

pub returns-in-Var : goal.returns-in-Var
returns-in-Var t c = record { built = variable_built c.args.graph.now c.args.places.now c.args.term.now c.in-Var.n c.requires.can c.in-Var.is }

pub loop-operand-init : goal.loop-operand-init
loop-operand-init t c = subst (λ xs. AreBuilt c.args.places.now (operands_of []) c.args.graph.now xs c.args.graph.now) (sym c.new-classes.ensures.items) none_built

pub loop-operand-preserved : goal.loop-operand-preserved
loop-operand-preserved t c =
    let items = c.deref-operand-items.result.now in
    let places = c.args.places.now in
    let k = c.loop-operand.operand-index in
    let x = c.operand-item.result in
    let pushed = are_built_push places (take k (trees_of items)) c.loop-operand.invariant c.in_ok-class-in-App.ensures.built in
    subst₂ (λ ts cs. AreBuilt places (operands_of ts) c.args.graph.now cs c.build.new.graph)
    (sym (one_more items k x c.loop-operand-test.true c.operand-item.is)) (sym c.in_ok-push-in-App.ensures.items) pushed

-- all operands are built
all_built : (t : ℕ) (c : goal.After-deref t) → AreBuilt c.args.places.now (operands_of (trees_of c.deref-operand-items.result.now)) c.args.graph.now c.deref.result.now c.loop-operand.graph
all_built t c =
    let items = c.deref-operand-items.result.now in
    subst₂ (λ ts cs. AreBuilt c.args.places.now (operands_of ts) c.args.graph.now cs c.loop-operand.graph) (all_taken items c.loop-operand.operand-index c.loop-operand-test.false) (sym c.deref.ensures.value) c.loop-operand.invariant

can_insert : (t : ℕ) (c : goal.After-deref t) → CanInsert c.loop-operand.graph c.in-App.op c.deref.result.now
can_insert t c =
    let items = c.deref-operand-items.result.now in
    let is = tree_is c.args.term.now c.in-App.op c.in-App.operands items c.in-App.is c.deref-operand-items.ensures.value in
    insert_can c.args.places.now c.in-App.op (trees_of items) c.args.graph.now (subst (CanBuild c.args.graph.now c.args.places.now) is c.requires.can) (all_built t c)

pub insert-requires-clause-arity : goal.insert-requires-clause-arity
insert-requires-clause-arity t c = (can_insert t c).arity

pub insert-requires-clause-made : goal.insert-requires-clause-made
insert-requires-clause-made t c = (can_insert t c).made

pub insert-requires-clause-sorts : goal.insert-requires-clause-sorts
insert-requires-clause-sorts t c = (can_insert t c).sorts

pub insert-requires-clause-few : goal.insert-requires-clause-few
insert-requires-clause-few t c = (can_insert t c).few

pub returns-after-loop-operand : goal.returns-after-loop-operand
returns-after-loop-operand t c =
    let items = c.deref-operand-items.result.now in
    let places = c.args.places.now in
    let is = tree_is c.args.term.now c.in-App.op c.in-App.operands items c.in-App.is c.deref-operand-items.ensures.value in
    let h = inserted_built places c.in-App.op (operands_of (trees_of items)) c.args.graph.now c.loop-operand.graph c.insert.new.self c.deref.result.now c.insert.result (all_built t (goal.at.returns-after-loop-operand t c).After-deref) c.insert.ensures.ok c.insert.ensures.values c.insert.ensures.graph in
    record { built = subst (λ u. IfOk c.insert.result (λ class. IsBuilt places u c.args.graph.now class c.insert.new.self)) (sym is) h }

pub build-requires : goal.build-requires
build-requires t c =
    let at = c.in-App in
    let items = c.deref-operand-items in
    let k = c.loop-operand.operand-index in (
      let smaller = next_operand_smaller c.args.term.now c.operand-item.result at.op at.operands items.result.now k at.is items.ensures.value c.loop-operand-test.true c.operand-item.is in
          omega (arith, smaller, c.decreases),
      next_operand_can c.args.graph.now c.loop-operand.graph c.args.places.now c.loop-operand.classes.items c.args.term.now c.operand-item.result at.op at.operands items.result.now k c.requires.can at.is items.ensures.value c.loop-operand.invariant c.loop-operand-test.true c.operand-item.is,
    )
