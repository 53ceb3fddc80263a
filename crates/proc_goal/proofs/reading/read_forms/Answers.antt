use Rattle.std.proofs.Common.{◌≡◌, ◌+◌, ◌-◌, ◌≤◌, Some, codes, length, drop, sym, ap, ◌∙◌, refl, subst, arith, slice_get}
use Rattle.std.specs.Option.{option_copied}
use Rattle.std.proofs.lemmas.List.{length-drop}
use Rattle.std.proofs.lemmas.Result.{err_from_is_err_and}
use Rattle.text_core.specs.Faults.{IsFirst}
use Rattle.forms.specs.Forms.{place_of, sexp_form, sexp_forms}
use Rattle.forms.specs.Reading.{IsSexpOf}
use Rattle.forms.proofs.Told.{told, told_as, told_of_part}
use Rattle.goal_reader.proofs.NewNames.{part_of}
use Rattle.goal_reader.proofs.TextEnd.{nth_form}
use Rattle.proc_goal.specs.ProcReading.{IsTableRefused}
use Rattle.proc_goal.specs.ProcRoles as roles
use Rattle.proc_goal.specs.ProcRoles.{IsProcFaultAs, IsProcTextFault}
use Rattle.proc_goal.specs.Views.{proc_view}
use Rattle.proc_goal.proofs.ProcTexts.{number_of_tables, nothing_first, other_form_first, proc_first, second_form_first, table_front, table_refused_first, whole_text_clear}
use Rattle.proc_goal.proofs.Slices.{count_forms, dropped_at, first_form, first_of_all, forms_dropped, none_left, sexps_dropped, tables_counted}
use Rattle.proc_goal.proofs.TextWrites.{first_dropped, text_writes}
use Rattle.proc_goal.proofs.reading.read_forms.Goals as goal

pub returns-in_err-given-clause-fault : goal.returns-in_err-given-clause-fault
returns-in_err-given-clause-fault c =
    let p = err_from_is_err_and c.from_residual.result c.from_residual.ensures.1 in
    let text = c.args.text.now in
    let all = sexp_forms text c.args.forms.now in
    let size = length text in
    let h = c.requires.stand in
    rw (p.1, p.2)
    (told_as (IsTableRefused all) (IsFirst (IsProcTextFault size all)) (λ k kind f. table_refused_first all size h k kind f) c.in_err-given.field-0.0 c.in_err-given.ensures.fault)

pub returns-in_default-clause-fault : goal.returns-in_default-clause-fault
returns-in_default-clause-fault c =
    let text = c.args.text.now in
    let all = sexp_forms text c.args.forms.now in
    let size = length text in
    let h = c.requires.stand in
    let given = c.in_ok-given.given in
    let read = c.in_ok-given.ensures.table in
    let n = number_of_tables given in
    let t = table_front all given read in
    let ys = c.behind-rest.result.now in
    let counted = tables_counted given c.from.result c.is_some.result c.from.ensures c.is_some.ensures in
    let ys_are : sexp_forms text ys ≡ drop n all = forms_dropped text c.from.result c.args.forms.now ys c.behind-rest.ensures ∙ ap (λ k. drop k all) counted in
    let each = sexps_dropped text c.from.result c.args.forms.now ys c.behind-rest.ensures c.requires.of in
    let so_many = sym (ap length ys_are) ∙ count_forms text ys in
    let total = length-drop n all in
    let none = none_left ys (sym c.first.ensures.value ∙ ap option_copied c.in_default.is) in
    told (IsProcTextFault size all) c.at.result _ size _ c.at.ensures refl (nothing_first all n t size h (omega (arith, so_many, total, none)))

pub returns-then-not-has_head-clause-fault : goal.returns-then-not-has_head-clause-fault
returns-then-not-has_head-clause-fault c =
    let text = c.args.text.now in
    let all = sexp_forms text c.args.forms.now in
    let size = length text in
    let h = c.requires.stand in
    let given = c.in_ok-given.given in
    let read = c.in_ok-given.ensures.table in
    let n = number_of_tables given in
    let t = table_front all given read in
    let ys = c.behind-rest.result.now in
    let counted = tables_counted given c.from.result c.is_some.result c.from.ensures c.is_some.ensures in
    let ys_are : sexp_forms text ys ≡ drop n all = forms_dropped text c.from.result c.args.forms.now ys c.behind-rest.ensures ∙ ap (λ k. drop k all) counted in
    let each = sexps_dropped text c.from.result c.args.forms.now ys c.behind-rest.ensures c.requires.of in
    let so_many = sym (ap length ys_are) ∙ count_forms text ys in
    let total = length-drop n all in
    let here = sym c.first.ensures.value ∙ ap option_copied c.in-Some.is in
    let form = sexp_form text c.in-Some.form.now in
    let g : slice_get all n ≡ Some form = sym (first_dropped n all) ∙ ap (λ fs. slice_get fs 0) (sym ys_are) ∙ first_form text ys c.in-Some.form.now here in
    let s = c.sexps_are_forms.ensures.stands text c.in-Some.form.now (first_of_all (IsSexpOf text) ys c.in-Some.form.now here each) in
    told (IsProcTextFault size all) c.at-then-not-has_head.result c.place.result (place_of form) _ c.at-then-not-has_head.ensures (c.place.ensures text)
    (other_form_first all n t size h form g s.0 s.1 s.2 (sym c.has_head.ensures ∙ c.if-not-has_head.true))

pub returns-in_err-proc-clause-fault : goal.returns-in_err-proc-clause-fault
returns-in_err-proc-clause-fault c =
    let q = err_from_is_err_and c.from_residual-in_err-proc.result c.from_residual-in_err-proc.ensures.1 in
    let text = c.args.text.now in
    let all = sexp_forms text c.args.forms.now in
    let size = length text in
    let h = c.requires.stand in
    let given = c.in_ok-given.given in
    let read = c.in_ok-given.ensures.table in
    let n = number_of_tables given in
    let t = table_front all given read in
    let ys = c.behind-rest.result.now in
    let counted = tables_counted given c.from.result c.is_some.result c.from.ensures c.is_some.ensures in
    let ys_are : sexp_forms text ys ≡ drop n all = forms_dropped text c.from.result c.args.forms.now ys c.behind-rest.ensures ∙ ap (λ k. drop k all) counted in
    let each = sexps_dropped text c.from.result c.args.forms.now ys c.behind-rest.ensures c.requires.of in
    let so_many = sym (ap length ys_are) ∙ count_forms text ys in
    let total = length-drop n all in
    let here = sym c.first.ensures.value ∙ ap option_copied c.in-Some.is in
    let form = sexp_form text c.in-Some.form.now in
    let g : slice_get all n ≡ Some form = sym (first_dropped n all) ∙ ap (λ fs. slice_get fs 0) (sym ys_are) ∙ first_form text ys c.in-Some.form.now here in
    let s = c.sexps_are_forms.ensures.stands text c.in-Some.form.now (first_of_all (IsSexpOf text) ys c.in-Some.form.now here each) in
    let p = sym c.has_head.ensures ∙ c.if-not-has_head.false in
    rw (q.1, q.2)
    (told_of_part (IsProcFaultAs roles.a_proc form) (IsProcTextFault size all) (λ k kind f. proc_first all n t size h form g p k kind f) c.in_err-proc.field-0.0 c.in_err-proc.ensures.fault)

pub returns-then-rest-gt1-clause-fault : goal.returns-then-rest-gt1-clause-fault
returns-then-rest-gt1-clause-fault c =
    let text = c.args.text.now in
    let all = sexp_forms text c.args.forms.now in
    let size = length text in
    let h = c.requires.stand in
    let given = c.in_ok-given.given in
    let read = c.in_ok-given.ensures.table in
    let n = number_of_tables given in
    let t = table_front all given read in
    let ys = c.behind-rest.result.now in
    let counted = tables_counted given c.from.result c.is_some.result c.from.ensures c.is_some.ensures in
    let ys_are : sexp_forms text ys ≡ drop n all = forms_dropped text c.from.result c.args.forms.now ys c.behind-rest.ensures ∙ ap (λ k. drop k all) counted in
    let each = sexps_dropped text c.from.result c.args.forms.now ys c.behind-rest.ensures c.requires.of in
    let so_many = sym (ap length ys_are) ∙ count_forms text ys in
    let total = length-drop n all in
    let here = sym c.first.ensures.value ∙ ap option_copied c.in-Some.is in
    let form = sexp_form text c.in-Some.form.now in
    let g : slice_get all n ≡ Some form = sym (first_dropped n all) ∙ ap (λ fs. slice_get fs 0) (sym ys_are) ∙ first_form text ys c.in-Some.form.now here in
    let s = c.sexps_are_forms.ensures.stands text c.in-Some.form.now (first_of_all (IsSexpOf text) ys c.in-Some.form.now here each) in
    let p = sym c.has_head.ensures ∙ c.if-not-has_head.false in
    let second = sexp_form text c.index-rest-1.result in
    let g2 : slice_get all (n + 1) ≡ Some second = sym (dropped_at n 1 all) ∙ ap (λ fs. slice_get fs 1) (sym ys_are) ∙ nth_form text ys 1 c.index-rest-1.result c.if-rest-gt1.true c.index-rest-1.is in
    let of = c.sexps_are_forms.ensures.stands text c.index-rest-1.result (part_of text ys 1 c.index-rest-1.result each c.if-rest-gt1.true c.index-rest-1.is) in
    told (IsProcTextFault size all) c.at-then-rest-gt1.result c.place-then-rest-gt1.result (place_of second) _ c.at-then-rest-gt1.ensures (c.place-then-rest-gt1.ensures text)
    (second_form_first all n t size h form g p c.in_ok-proc.ensures.clear second of.0 of.1 of.2 g2)

pub returns-clause-written : goal.returns-clause-written
returns-clause-written c =
    let text = c.args.text.now in
    let all = sexp_forms text c.args.forms.now in
    let size = length text in
    let h = c.requires.stand in
    let given = c.in_ok-given.given in
    let read = c.in_ok-given.ensures.table in
    let n = number_of_tables given in
    let t = table_front all given read in
    let ys = c.behind-rest.result.now in
    let counted = tables_counted given c.from.result c.is_some.result c.from.ensures c.is_some.ensures in
    let ys_are : sexp_forms text ys ≡ drop n all = forms_dropped text c.from.result c.args.forms.now ys c.behind-rest.ensures ∙ ap (λ k. drop k all) counted in
    let each = sexps_dropped text c.from.result c.args.forms.now ys c.behind-rest.ensures c.requires.of in
    let so_many = sym (ap length ys_are) ∙ count_forms text ys in
    let total = length-drop n all in
    let here = sym c.first.ensures.value ∙ ap option_copied c.in-Some.is in
    let form = sexp_form text c.in-Some.form.now in
    let g : slice_get all n ≡ Some form = sym (first_dropped n all) ∙ ap (λ fs. slice_get fs 0) (sym ys_are) ∙ first_form text ys c.in-Some.form.now here in
    let s = c.sexps_are_forms.ensures.stands text c.in-Some.form.now (first_of_all (IsSexpOf text) ys c.in-Some.form.now here each) in
    let few = c.if-rest-gt1.false in
    text_writes all given read form g (omega (arith, so_many, total, few)) (proc_view c.in_ok-proc.proc) (c.in_ok-proc.ensures.table.0 ∙ c.in_ok-table.ensures.table) (c.in_ok-proc.ensures.table.1 ∙ c.in_ok-table.ensures.builtin)
    c.in_ok-proc.ensures.proc

pub returns-clause-clear : goal.returns-clause-clear
returns-clause-clear c =
    let text = c.args.text.now in
    let all = sexp_forms text c.args.forms.now in
    let size = length text in
    let h = c.requires.stand in
    let given = c.in_ok-given.given in
    let read = c.in_ok-given.ensures.table in
    let n = number_of_tables given in
    let t = table_front all given read in
    let ys = c.behind-rest.result.now in
    let counted = tables_counted given c.from.result c.is_some.result c.from.ensures c.is_some.ensures in
    let ys_are : sexp_forms text ys ≡ drop n all = forms_dropped text c.from.result c.args.forms.now ys c.behind-rest.ensures ∙ ap (λ k. drop k all) counted in
    let each = sexps_dropped text c.from.result c.args.forms.now ys c.behind-rest.ensures c.requires.of in
    let so_many = sym (ap length ys_are) ∙ count_forms text ys in
    let total = length-drop n all in
    let here = sym c.first.ensures.value ∙ ap option_copied c.in-Some.is in
    let form = sexp_form text c.in-Some.form.now in
    let g : slice_get all n ≡ Some form = sym (first_dropped n all) ∙ ap (λ fs. slice_get fs 0) (sym ys_are) ∙ first_form text ys c.in-Some.form.now here in
    let s = c.sexps_are_forms.ensures.stands text c.in-Some.form.now (first_of_all (IsSexpOf text) ys c.in-Some.form.now here each) in
    let p = sym c.has_head.ensures ∙ c.if-not-has_head.false in
    let few = c.if-rest-gt1.false in
    whole_text_clear all n t size h form g p c.in_ok-proc.ensures.clear (omega (arith, so_many, total, few))
