use Rattle.std.proofs.Common.{ap, arith, rules, map, length, sym, ◌∙◌, All, subst}
use Rattle.std.proofs.lemmas.List.{take_all}
use Rattle.std.proofs.lemmas.Result.{IfOk-weaker}
use Rattle.word_terms.specs.Tree.{substituted, AreBelow}
use Rattle.word_terms.specs.declared.term.Term.{Term}
use Rattle.word_terms.specs.View.{tree_of, trees_of}
use Rattle.word_terms.proofs.Trees.{all_below, variable_below, put_at_variable, put_at_application, keeps_value}
use Rattle.word_terms.proofs.term.+subst.Goals as goal

pub offset_bounds-values-n : goal.offset_bounds-values-n
offset_bounds-values-n g t c = omega (arith, variable_below _ _ _ c.requires.variables c.in-Var.is)

pub bounds-values-n : goal.bounds-values-n
bounds-values-n g t c = variable_below _ _ _ c.requires.variables c.in-Var.is

pub returns-in-Var-clause-tree : goal.returns-in-Var-clause-tree
returns-in-Var-clause-tree g t c =
    let e = put_at_variable c.args.values.now c.args.term.now c.in-Var.n c.index-values-n.result c.in-Var.is c.requires.variables c.index-values-n.is in
    IfOk-weaker c.copy.result _ _ (λ x p. p ∙ e) c.copy.ensures.equal

pub returns-in-Var-clause-keeps_value : goal.returns-in-Var-clause-keeps_value
returns-in-Var-clause-keeps_value g t c = IfOk-weaker c.copy.result _ _ (λ x e. keeps_value (trees_of c.args.values.now) (tree_of c.args.term.now) (tree_of x) e g.O.Operator.meaning) (returns-in-Var-clause-tree g t c)

pub returns-after-loop-operand-clause-tree : goal.returns-after-loop-operand-clause-tree
returns-after-loop-operand-clause-tree g t c =
    let trees = trees_of c.args.values.now in
    let all = take_all c.loop-operand.operand-index c.deref-operand-items.result.now c.loop-operand-test.false in
    let f = c.loop-operand.invariant.done ∙ ap (λ xs. map (substituted trees) (trees_of xs)) (all ∙ c.deref-operand-items.ensures.value) in
    put_at_application trees c.args.term.now c.in-App.op c.in-App.operands c.loop-operand.made c.in-App.is f

pub returns-after-loop-operand-clause-keeps_value : goal.returns-after-loop-operand-clause-keeps_value
returns-after-loop-operand-clause-keeps_value g t c = keeps_value (trees_of c.args.values.now) (tree_of c.args.term.now) _ (returns-after-loop-operand-clause-tree g t c) g.O.Operator.meaning

pub loop-operand-init : goal.loop-operand-init
loop-operand-init g t c =
    let n = length c.args.values.now in
    let below = all_below n c.args.term.now c.in-App.op c.in-App.operands c.requires.variables c.in-App.is in
    let P : Term g.row.O.Denot → Type 0 = λ x. AreBelow n (tree_of x) in
    record { done = search rules; in_range = subst (All P) (sym c.deref-operand-items.ensures.value) below }
