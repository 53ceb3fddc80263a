use Rattle.std.proofs.Common.{rules, [], ◌≡◌, ◌++◌, ◌≤◌, List, length, map, ap, sym, ◌∙◌, arith}
use Rattle.std.specs.Prelude.{slice_index_or}
use Rattle.forms.specs.Forms.{name}
use Rattle.forms.specs.Printing.{atom, list, more, plain_text}
use Rattle.goal_meaning.specs.InputForms.{leaf_atom, naming, operator_name, term_plain, terms_plain}
use Rattle.word_ops.specs.declared.sorts.Op.{Op}
use Rattle.word_terms.specs.Tree.{operands_of}
use Rattle.word_terms.specs.View.{tree_of}
use Rattle.word_terms.specs.declared.term.Term.{Term}
use Rattle.goal_reader.proofs.Printed.{all_terms, leaf_text, list_printed, no_leaf, on_ok}
use Rattle.goal_reader.proofs.Trees.{tree_of_variable, tree_of_application}
use Rattle.goal_reader.proofs.printing.+put_term.Goals as goal

pub returns-in_ok-extend_from_slice-in-Var : goal.returns-in_ok-extend_from_slice-in-Var
returns-in_ok-extend_from_slice-in-Var t c =
    let names = naming c.args.declared.now c.args.inputs.now c.args.variables.now in
    let e : c.extend_from_slice.new.self.items ≡ c.args.text.now.items ++ slice_index_or c.args.variables.now c.in-Var.at [] = search rules in
    e ∙ sym (ap (λ t. c.args.text.now.items ++ plain_text (term_plain names t)) (ap tree_of c.in-Var.is ∙ tree_of_variable _))

pub returns-in_default : goal.returns-in_default
returns-in_default t c =
    let names = naming c.args.declared.now c.args.inputs.now c.args.variables.now in
    let e : c.args.text.now.items ≡ c.args.text.now.items ++ slice_index_or c.args.variables.now c.in-Var.at [] = search rules in
    e ∙ sym (ap (λ t. c.args.text.now.items ++ plain_text (term_plain names t)) (ap tree_of c.in-Var.is ∙ tree_of_variable _))

pub returns-then-is_leaf : goal.returns-then-is_leaf
returns-then-is_leaf t c =
    let names = naming c.args.declared.now c.args.inputs.now c.args.variables.now in
    let at = c.in-App in
    let operands = operands_of (map tree_of at.operands.items) in
    let whole = list (more (atom (name (operator_name c.args.declared.now at.op))) (terms_plain names operands)) in
    on_ok c.put_leaf.result
    (λ e. e ∙ ap (λ l. c.args.text.now.items ++ l) (leaf_text (leaf_atom c.args.inputs.now at.op) whole (sym (c.is_leaf.ensures c.args.inputs.now) ∙ c.if-is_leaf.true))
    ∙ sym (ap (λ t. c.args.text.now.items ++ plain_text (term_plain names t)) (ap tree_of at.is ∙ tree_of_application _ _))) c.put_leaf.ensures

pub returns-in_ok-extend_from_slice-in-App-3 : goal.returns-in_ok-extend_from_slice-in-App-3
returns-in_ok-extend_from_slice-in-App-3 t c =
    let names = naming c.args.declared.now c.args.inputs.now c.args.variables.now in
    let at = c.in-App in
    let items : c.deref-operand-items.result.now ≡ at.operands.items = c.deref-operand-items.ensures.value in
    let operands = operands_of (map tree_of at.operands.items) in
    let word = operator_name c.args.declared.now at.op in
    let whole = list (more (atom (name word)) (terms_plain names operands)) in
    let old = c.args.text.now.items in
    let most : length c.deref-operand-items.result.now ≤ c.loop-operand.operand-index = omega (arith, c.loop-operand-test.false) in
    let middle = all_terms names c.deref-operand-items.result.now c.loop-operand.operand-index c.put_operator.new.text.items c.loop-operand.text.items most c.loop-operand.invariant
    ∙ ap (λ (ts : List (Term Op)). c.put_operator.new.text.items ++ Rattle.forms.specs.Printing.others_of (terms_plain names (operands_of (map tree_of ts)))) items in
    let text = list_printed old c.extend_from_slice-in-App.new.self.items c.put_operator.new.text.items c.loop-operand.text.items c.extend_from_slice-in-App-2.new.self.items word _
    c.in_ok-extend_from_slice-in-App.ensures.items c.in_ok-put_operator-in-App.ensures middle c.in_ok-extend_from_slice-in-App-3.ensures.items in
    text ∙ ap (λ l. old ++ l) (sym (no_leaf (leaf_atom c.args.inputs.now at.op) whole (sym (c.is_leaf.ensures c.args.inputs.now) ∙ c.if-is_leaf.false)))
    ∙ sym (ap (λ t. old ++ plain_text (term_plain names t)) (ap tree_of at.is ∙ tree_of_application _ _))
