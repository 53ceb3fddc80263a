use Rattle.std.proofs.Common.{ℕ, ◌+◌, [], take, sym, subst, subst₂, arith}
use Rattle.std.proofs.lemmas.Option.{MatchOption-at_some, MatchOption-at_none}
use Rattle.word_terms.specs.Tree.{operands_of}
use Rattle.word_terms.specs.View.{trees_of}
use Rattle.pattern_match.specs.Classes.{AreClasses, no_classes}
use Rattle.pattern_match.proofs.ReadingSteps.{variable_class, operand_can_be_read, smaller_operand, absent_operand, next_read, all_made, read_exactly, all_taken}
use Rattle.pattern_match.proofs.reading.+class_of_pattern.Goals as goal
use Rattle.pattern_match.proofs.reading.+class_of_pattern.Goals.{After-deref}

pub bounds-places-n : goal.bounds-places-n
bounds-places-n t c = (variable_class c.args.graph.now c.args.places.now c.args.pattern.now c.in-Var.n c.requires.can c.in-Var.is).0

pub returns-in-Var : goal.returns-in-Var
returns-in-Var t c = record { exact = (variable_class c.args.graph.now c.args.places.now c.args.pattern.now c.in-Var.n c.requires.can c.in-Var.is).1 }

pub loop-operand-init : goal.loop-operand-init
loop-operand-init t c = subst (AreClasses c.args.graph.now c.args.places.now (operands_of [])) (sym c.new-classes.ensures.items) no_classes

pub class_of_pattern-requires : goal.class_of_pattern-requires
class_of_pattern-requires t c =
    let p = c.args.pattern.now in
    let x = c.operand-item.result in
    let at = c.in-App in
    let items = c.deref-operand-items in
    let k = c.loop-operand.operand-index in
    let smaller = smaller_operand c.args.graph.now c.args.places.now p x at.op at.operands items.result.now k at.is items.ensures.value c.loop-operand-test.true c.operand-item.is in (
      omega (arith, smaller, c.decreases),
      operand_can_be_read c.args.graph.now c.args.places.now p x at.op at.operands items.result.now k at.is items.ensures.value c.loop-operand-test.true c.operand-item.is c.requires.can,
    )

pub returns-in_default : goal.returns-in_default
returns-in_default t c =
    let at = c.in-App in
    let items = c.deref-operand-items in
    record { exact = absent_operand c.args.graph.now c.args.places.now c.args.pattern.now c.operand-item.result at.op at.operands items.result.now c.loop-operand.operand-index at.is items.ensures.value c.loop-operand-test.true c.operand-item.is (MatchOption-at_none _ _ c.in_default.is c.in_ok-class-in-App.ensures.exact) }

pub loop-operand-preserved : goal.loop-operand-preserved
loop-operand-preserved t c =
    let at = c.in-App in
    let items = c.deref-operand-items in
    let next = next_read c.args.graph.now c.args.places.now c.args.pattern.now c.operand-item.result at.op at.operands items.result.now c.loop-operand.operand-index at.is items.ensures.value c.loop-operand-test.true c.operand-item.is c.loop-operand.classes.items c.in-Some.class c.loop-operand.invariant (MatchOption-at_some _ _ c.in-Some.class c.in-Some.is c.in_ok-class-in-App.ensures.exact) in
    subst (AreClasses c.args.graph.now c.args.places.now (operands_of (take (c.loop-operand.operand-index + 1) (trees_of items.result.now)))) (sym c.in_ok-push-in-App.ensures.items) next

all_read : (t : ℕ) (c : After-deref t) → AreClasses c.args.graph.now c.args.places.now (operands_of (trees_of c.deref-operand-items.result.now)) c.deref.result.now
all_read t c =
    subst₂ (λ ts cs. AreClasses c.args.graph.now c.args.places.now (operands_of ts) cs) (all_taken c.args.graph.now c.args.places.now c.deref-operand-items.result.now c.loop-operand.operand-index c.loop-operand-test.false) (sym c.deref.ensures.value) c.loop-operand.invariant

pub class_of-requires : goal.class_of-requires
class_of-requires t c =
    let at = c.in-App in
    let items = c.deref-operand-items in
    record { made = all_made c.args.graph.now c.args.places.now c.args.pattern.now at.op at.operands items.result.now at.is items.ensures.value c.requires.can c.deref.result.now (all_read t c) }

pub returns-after-loop-operand : goal.returns-after-loop-operand
returns-after-loop-operand t c =
    let at = c.in-App in
    let items = c.deref-operand-items in
    record { exact = read_exactly c.args.graph.now c.args.places.now c.args.pattern.now at.op at.operands items.result.now at.is items.ensures.value c.requires.can c.deref.result.now (all_read t (goal.at.returns-after-loop-operand t c).After-deref) c.class_of.result c.class_of.ensures.row }
