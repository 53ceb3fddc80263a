use Rattle.std.proofs.Common.{◌≡◌, ◌-◌, List, length, take, drop, sym, ◌∙◌, ap, subst, arith}
use Rattle.std.proofs.lemmas.Result.{err_from_is_err_and}
use Rattle.text_core.specs.declared.sexps.Sexp.{Sexp}
use Rattle.word_ops.specs.Meanings.{operand_sort}
use Rattle.word_terms.specs.View.{trees_of}
use Rattle.forms.specs.Forms.{is_list, sexp_form}
use Rattle.forms.specs.Reading.{IsSexpOf}
use Rattle.forms.proofs.Views.{atom_form, list_form}
use Rattle.forms.proofs.Told.{told_of_part}
use Rattle.goal_reader.specs.Roles.{term, IsFaultAs, WritesTerm}
use Rattle.goal_reader.proofs.Operands.{operand_first, whole_term, rest_is, operand_count, all_rest}
use Rattle.std.proofs.Common.{Some}
use Rattle.std.proofs.lemmas.List.{take_all, length-drop}
use Rattle.text_core.specs.Faults.{IsFirst, IsFaultBy}
use Rattle.word_ops.specs.declared.sorts.Sort.{Sort}
use Rattle.word_ops.specs.declared.sorts.Op.{Op}
use Rattle.word_terms.specs.declared.term.Term.{Term}
use Rattle.word_terms.specs.Tree.{Tree, operands_of}
use Rattle.forms.specs.Forms.{forms_from, sexp_forms, none}
use Rattle.goal_reader.specs.Terms.{WritesEach, nothing}
use Rattle.goal_reader.proofs.Trees.{tree_of_application}
use Rattle.goal_reader.proofs.Operands.{step_writes}
use Rattle.goal_reader.proofs.terms.+read_term.Goals as goal

pub atom-requires-clause-atom : goal.atom-requires-clause-atom
atom-requires-clause-atom t c = ap is_list (atom_form c.args.text.now (c.sexps_are_forms.ensures.atoms c.args.text.now) c.args.form.now c.in-Atom.field-0 c.in-Atom.is)

pub application-requires-clause-list : goal.application-requires-clause-list
application-requires-clause-list t c = ap is_list (list_form c.args.text.now (c.sexps_are_forms.ensures.lists c.args.text.now) c.args.form.now c.in-List.place c.in-List.parts c.in-List.is)

pub slice_bounds-rest-count : goal.slice_bounds-rest-count
slice_bounds-rest-count t c =
    let text = c.args.text.now in
    let form = sexp_form text c.args.form.now in
    let is = list_form text (c.sexps_are_forms.ensures.lists text) c.args.form.now c.in-List.place c.in-List.parts c.in-List.is in
    let d = c.deref.result.now in
    let rest : take (length d - 1) (drop 1 d) ≡ drop 1 c.in-List.parts.items = rest_is d ∙ ap (drop 1) c.deref.ensures.value in
    let n = operand_count c.args.scope.now c.args.wanted form c.in-List.place c.in_ok-op-in-List.op text c.in-List.parts.items c.in_ok-op-in-List.ensures.op is in
    let e = ap length c.deref.ensures.value in
    omega (arith, n, e)

pub slice_bounds-rest-start : goal.slice_bounds-rest-start
slice_bounds-rest-start t c =
    let text = c.args.text.now in
    let form = sexp_form text c.args.form.now in
    let is = list_form text (c.sexps_are_forms.ensures.lists text) c.args.form.now c.in-List.place c.in-List.parts c.in-List.is in
    let d = c.deref.result.now in
    let rest : take (length d - 1) (drop 1 d) ≡ drop 1 c.in-List.parts.items = rest_is d ∙ ap (drop 1) c.deref.ensures.value in
    let n = operand_count c.args.scope.now c.args.wanted form c.in-List.place c.in_ok-op-in-List.op text c.in-List.parts.items c.in_ok-op-in-List.ensures.op is in
    let e = ap length c.deref.ensures.value in
    omega (arith, n, e)

pub operand_sort-sort-requires : goal.operand_sort-sort-requires
operand_sort-sort-requires t c =
    let text = c.args.text.now in
    let form = sexp_form text c.args.form.now in
    let is = list_form text (c.sexps_are_forms.ensures.lists text) c.args.form.now c.in-List.place c.in-List.parts c.in-List.is in
    let d = c.deref.result.now in
    let rest : take (length d - 1) (drop 1 d) ≡ drop 1 c.in-List.parts.items = rest_is d ∙ ap (drop 1) c.deref.ensures.value in
    let n = operand_count c.args.scope.now c.args.wanted form c.in-List.place c.in_ok-op-in-List.op text c.in-List.parts.items c.in_ok-op-in-List.ensures.op is in
    let e = ap length c.deref.ensures.value in
    let r = ap length (rest_is d) in
    let l = c.loop-index-test.true in
    let m = length-drop 1 d in
    omega (arith, n, e, r, l, m)

pub returns-in_err-operand-in-List-clause-fault : goal.returns-in_err-operand-in-List-clause-fault
returns-in_err-operand-in-List-clause-fault t c =
    let p = err_from_is_err_and c.from_residual-in_err-operand-in-List.result c.from_residual-in_err-operand-in-List.ensures.1 in
    let text = c.args.text.now in
    let form = sexp_form text c.args.form.now in
    let is = list_form text (c.sexps_are_forms.ensures.lists text) c.args.form.now c.in-List.place c.in-List.parts c.in-List.is in
    let d = c.deref.result.now in
    let rest : take (length d - 1) (drop 1 d) ≡ drop 1 c.in-List.parts.items = rest_is d ∙ ap (drop 1) c.deref.ensures.value in
    let s = c.sexps_are_forms.ensures.stands text c.args.form.now c.requires.of in
    let op = c.in_ok-op-in-List.op in
    let part = sexp_form text c.index-rest-index.result in
    let told = subst (λ (x : Sort). IsFaultBy (IsFirst (IsFaultAs (term c.args.scope.now (Some x)) part)) c.in_err-operand-in-List.field-0.0) c.operand_sort-sort.ensures c.in_err-operand-in-List.ensures.fault in
    rw (p.1, p.2)
    (told_of_part (IsFaultAs (term c.args.scope.now (Some (operand_sort op c.loop-index.index))) part) (IsFaultAs (term c.args.scope.now c.args.wanted) form)
    (λ p k first. operand_first c.args.scope.now c.args.wanted form c.in-List.place s.0 s.1 s.2 op c.in_ok-op-in-List.ensures.op text c.in-List.parts.items _ (trees_of c.loop-index.operands.items) c.index-rest-index.result c.loop-index.index p k is rest c.loop-index-test.true c.index-rest-index.is c.loop-index.invariant.writes first)
    c.in_err-operand-in-List.field-0.0 told)

pub returns-after-loop-index-clause-term : goal.returns-after-loop-index-clause-term
returns-after-loop-index-clause-term t c =
    let text = c.args.text.now in
    let form = sexp_form text c.args.form.now in
    let is = list_form text (c.sexps_are_forms.ensures.lists text) c.args.form.now c.in-List.place c.in-List.parts c.in-List.is in
    let d = c.deref.result.now in
    let rest : take (length d - 1) (drop 1 d) ≡ drop 1 c.in-List.parts.items = rest_is d ∙ ap (drop 1) c.deref.ensures.value in
    let s = c.sexps_are_forms.ensures.stands text c.args.form.now c.requires.of in
    let op = c.in_ok-op-in-List.op in
    let all = take_all c.loop-index.index (take (length d - 1) (drop 1 d)) c.loop-index-test.false in
    let each = subst (λ (ps : List Sexp). WritesEach c.args.scope.now op 0 (forms_from (sexp_forms text ps)) (operands_of (trees_of c.loop-index.operands.items))) all c.loop-index.invariant.writes in
    subst (λ (x : Tree Op). WritesTerm c.args.scope.now c.args.wanted form x) (sym (tree_of_application op c.loop-index.operands))
    (whole_term c.args.scope.now c.args.wanted form c.in-List.place s.0 s.1 s.2 op c.in_ok-op-in-List.ensures.op text c.in-List.parts.items _ (trees_of c.loop-index.operands.items) is rest each)

pub loop-index-preserved : goal.loop-index-preserved
loop-index-preserved t c =
    record {
      writes = step_writes c.args.scope.now c.in_ok-op-in-List.op c.args.text.now _ c.loop-index.operands.items c.push.new.self.items c.index-rest-index.result c.in_ok-operand-in-List.operand c.operand_sort-sort.result c.loop-index.index c.loop-index-test.true c.index-rest-index.is c.operand_sort-sort.ensures
          c.in_ok-push-in-List.ensures.items c.loop-index.invariant.writes c.in_ok-operand-in-List.ensures.term;
      of = c.loop-index.invariant.of;
    }

pub loop-index-init : goal.loop-index-init
loop-index-init t c =
    let text = c.args.text.now in
    let form = sexp_form text c.args.form.now in
    let is = list_form text (c.sexps_are_forms.ensures.lists text) c.args.form.now c.in-List.place c.in-List.parts c.in-List.is in
    let d = c.deref.result.now in
    let rest : take (length d - 1) (drop 1 d) ≡ drop 1 c.in-List.parts.items = rest_is d ∙ ap (drop 1) c.deref.ensures.value in
    record {
      writes = subst (λ (ts : List (Term Op)). WritesEach c.args.scope.now c.in_ok-op-in-List.op 0 none (operands_of (trees_of ts))) (sym c.new-operands.ensures.items) nothing;
      of = all_rest (IsSexpOf text) c.in-List.parts.items _ rest (c.sexps_are_forms.ensures.parts text c.in-List.place c.in-List.parts (subst (IsSexpOf text) c.in-List.is c.requires.of));
    }
