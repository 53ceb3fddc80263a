use Rattle.std.proofs.Common.{◌<◌, ◌≤◌, List, Some, length, take, sym, ap, ◌∙◌, refl, subst, arith}
use Rattle.std.proofs.lemmas.Result.{err_from_is_err_and}
use Rattle.std.proofs.lemmas.List.{take_all, length-map}
use Rattle.forms.specs.Forms.{Form, sexp_form, sexp_forms}
use Rattle.text_core.specs.Faults.{IsFirst}
use Rattle.forms.proofs.Told.{told, told_of_part}
use Rattle.goal_reader.specs.Keywords.{form_rank}
use Rattle.goal_reader.specs.Order.{IsOrderOf}
use Rattle.goal_reader.specs.Roles.{Role, text_keywords, text_bounds, bound_at, of_rank, top_role, IsTextFault}
use Rattle.goal_reader.specs.TextDrafts.{IsTextDraft, IsTextWritten, IsClearForm, text_role}
use Rattle.goal_reader.specs.TextFaults.{IsFormFault, role_at}
use Rattle.goal_reader.proofs.GoalSteps.{got_more}
use Rattle.goal_reader.proofs.TextEnd.{some_goals, no_fault, nth_form, form_is_first, missing_goal}
use Rattle.goal_reader.proofs.TextSteps.{next_draft, next_written, next_keeps, admitted_role, clear_next, none_before}
use Rattle.goal_reader.proofs.WrittenItems.{fewer_than_one}
use Rattle.goal_reader.proofs.reading.read_forms.Goals as goal

pub loop-index-init : goal.loop-index-init
loop-index-init c =
    let text = c.args.text.now in
    let all = sexp_forms text c.args.forms.now in
    let size = length text in
    record {
      draft = c.start_text-draft.ensures.draft;
      written = c.start_text-draft.ensures.written;
      keeps = c.start_text-draft.ensures.keeps;
      order = c.new-order.ensures text_keywords;
      clear = none_before all;
    }

pub returns-in_err-keyword-clause-fault : goal.returns-in_err-keyword-clause-fault
returns-in_err-keyword-clause-fault c =
    let p = err_from_is_err_and c.from_residual.result c.from_residual.ensures.1 in
    let text = c.args.text.now in
    let all = sexp_forms text c.args.forms.now in
    let size = length text in
    let i = c.loop-index.index in
    let inv = c.loop-index.invariant in
    let part = sexp_form text c.index-forms-index.result in
    let g = nth_form text c.args.forms.now i c.index-forms-index.result c.loop-index-test.true c.index-forms-index.is in
    let before = take i all in
    rw (p.1, p.2)
    (told_of_part (IsFormFault (role_at all i part) part) (IsTextFault size all)
    (λ p k one. form_is_first size all c.requires.stand i part p k g inv.clear one) c.in_err-keyword.field-0.0 (c.in_err-keyword.ensures.fault before (top_role before) inv.order))

pub after-order-requires-clause-few : goal.after-order-requires-clause-few
after-order-requires-clause-few c = λ is.
    let few = c.in_ok-keyword.ensures.few (sym c.rank.ensures ∙ is) in
    omega (arith, few)

pub returns-in_err-draft-clause-fault : goal.returns-in_err-draft-clause-fault
returns-in_err-draft-clause-fault c =
    let p = err_from_is_err_and c.from_residual-in_err-draft.result c.from_residual-in_err-draft.ensures.1 in
    let text = c.args.text.now in
    let all = sexp_forms text c.args.forms.now in
    let size = length text in
    let i = c.loop-index.index in
    let inv = c.loop-index.invariant in
    let part = sexp_form text c.index-forms-index.result in
    let g = nth_form text c.args.forms.now i c.index-forms-index.result c.loop-index-test.true c.index-forms-index.is in
    let before = take i all in
    let d = c.loop-index.draft in
    let at = form_rank c.in_ok-keyword.keyword in
    let admitted = c.in_ok-keyword.ensures.admitted before inv.order in
    let role = admitted_role before part d inv.draft at c.in_ok-keyword.ensures.rank admitted in
    rw (p.1, p.2)
    (told_of_part (IsFormFault (text_role d at) part) (IsTextFault size all)
    (λ p k one. form_is_first size all c.requires.stand i part p k g inv.clear (subst (λ (r : Role). IsFirst (IsFormFault r part) p k) (sym role) one)) c.in_err-draft.field-0.0 c.in_err-draft.ensures.fault)

pub loop-index-preserved : goal.loop-index-preserved
loop-index-preserved c =
    let text = c.args.text.now in
    let all = sexp_forms text c.args.forms.now in
    let size = length text in
    let i = c.loop-index.index in
    let inv = c.loop-index.invariant in
    let part = sexp_form text c.index-forms-index.result in
    let g = nth_form text c.args.forms.now i c.index-forms-index.result c.loop-index-test.true c.index-forms-index.is in
    let before = take i all in
    let d = c.loop-index.draft in
    let at = form_rank c.in_ok-keyword.keyword in
    let admitted = c.in_ok-keyword.ensures.admitted before inv.order in
    let role = admitted_role before part d inv.draft at c.in_ok-keyword.ensures.rank admitted in
    let next = c.in_ok-draft.draft in
    let step = c.in_ok-draft.ensures.next in
    let clear = c.in_ok-draft.ensures.clear in
    let more = got_more all i part g in
    record {
      draft = subst (λ (fs : List Form). IsTextDraft fs next) (sym more) (next_draft before part d inv.draft at next c.in_ok-keyword.ensures.rank step);
      written = subst (λ (fs : List Form). IsTextWritten fs next) (sym more) (next_written before part d inv.written at next c.in_ok-keyword.ensures.rank admitted.0 step clear
          (λ is. fewer_than_one (of_rank text_keywords 0 before) (subst (λ n. length (of_rank text_keywords n before) < (bound_at text_bounds n).most) is admitted.1)));
      keeps = next_keeps before part d inv.written at next c.in_ok-keyword.ensures.rank admitted.1 inv.keeps step clear;
      order = subst (λ (fs : List Form). IsOrderOf text_keywords fs c.after-order.result) (sym more) (c.after-order.ensures text_keywords before part inv.order (c.in_ok-keyword.ensures.rank ∙ ap Some (sym c.rank.ensures)));
      clear = clear_next all i part g (subst (λ (r : Role). IsClearForm r part) (sym role) clear) inv.clear;
    }

pub returns-then-is_empty-clause-fault : goal.returns-then-is_empty-clause-fault
returns-then-is_empty-clause-fault c =
    let text = c.args.text.now in
    let all = sexp_forms text c.args.forms.now in
    let size = length text in
    let i = c.loop-index.index in
    let inv = c.loop-index.invariant in
    let most : length all ≤ i = (let f = c.loop-index-test.false in let n = length-map c.args.forms.now (sexp_form text) in omega (arith, f, n)) in
    let written = subst (λ (fs : List Form). IsTextWritten fs c.loop-index.draft) (take_all i all most) inv.written in
    let none = c.is_empty.ensures.0 c.if-is_empty.true in
    told (IsTextFault size all) c.at.result _ size _ c.at.ensures refl
    (missing_goal size all c.loop-index.draft i c.requires.stand written inv.clear most none)

pub returns-clause-written : goal.returns-clause-written
returns-clause-written c =
    let text = c.args.text.now in
    let all = sexp_forms text c.args.forms.now in
    let size = length text in
    let i = c.loop-index.index in
    let inv = c.loop-index.invariant in
    let most : length all ≤ i = (let f = c.loop-index-test.false in let n = length-map c.args.forms.now (sexp_form text) in omega (arith, f, n)) in
    let written = subst (λ (fs : List Form). IsTextWritten fs c.loop-index.draft) (take_all i all most) inv.written in
    written

pub returns-clause-clear : goal.returns-clause-clear
returns-clause-clear c =
    let text = c.args.text.now in
    let all = sexp_forms text c.args.forms.now in
    let size = length text in
    let i = c.loop-index.index in
    let inv = c.loop-index.invariant in
    let most : length all ≤ i = (let f = c.loop-index-test.false in let n = length-map c.args.forms.now (sexp_form text) in omega (arith, f, n)) in
    let written = subst (λ (fs : List Form). IsTextWritten fs c.loop-index.draft) (take_all i all most) inv.written in
    no_fault size all c.loop-index.draft i written inv.clear most (some_goals c.loop-index.draft.goals c.is_empty.result c.if-is_empty.false c.is_empty.ensures.1)
