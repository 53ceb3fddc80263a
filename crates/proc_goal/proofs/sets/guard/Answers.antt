use Rattle.std.proofs.Common.{◌≡◌, ◌<◌, ◌≤◌, List, [], ◌∷◌, Some, codes, length, sym, ◌∙◌, ap, refl, subst, arith}
use Rattle.std.proofs.lemmas.Result.{err_from_is_err_and}
use Rattle.text_core.specs.Faults.{IsFaultBy, IsFirst}
use Rattle.text_core.specs.declared.faults.Kind.TheVariants.{BadForm}
use Rattle.forms.specs.Forms.{Form, place_of, sexp_form, parts_of}
use Rattle.forms.proofs.Told.{told, told_of_part}
use Rattle.goal_reader.specs.GoalTerms.{term_scope}
use Rattle.goal_reader.specs.Reading.{IsClear}
use Rattle.goal_reader.specs.Roles.{IsFaultAs, term}
use Rattle.goal_reader.proofs.NewNames.{nth_part, part_of, count_form}
use Rattle.word_ops.specs.declared.sorts.Sort.TheVariants as sorts
use Rattle.word_terms.specs.View.{tree_of}
use Rattle.proc_goal.specs.ProcRoles as roles
use Rattle.proc_goal.specs.ProcRoles.{IsProcFaultAs}
use Rattle.proc_goal.specs.Views.{when_view}
use Rattle.proc_goal.proofs.Items.{head_is_list}
use Rattle.proc_goal.proofs.ListForms.{guard_clear, guard_target_first, guard_term_first, guard_third_first, guard_writes, short_guard_first}
use Rattle.proc_goal.proofs.sets.guard.Goals as goal

pub unreachable-requires : goal.unreachable-requires
unreachable-requires c =
    head_is_list (codes "when") (sexp_form c.args.text.now c.args.form.now) c.requires.head (c.in_default.ensures.parts c.args.text.now)

pub returns-then-parts-lt3-clause-fault : goal.returns-then-parts-lt3-clause-fault
returns-then-parts-lt3-clause-fault c =
    let text = c.args.text.now in
    let form = sexp_form text c.args.form.now in
    let s = c.sexps_are_forms.ensures.stands text c.args.form.now c.requires.of in
    let parts = c.in-Some.parts.now in
    let is = c.in-Some.ensures.parts text in
    let vars = c.args.vars.now in
    let names = c.args.names.now in
    let count = count_form text form (place_of form) parts is in
    told (IsProcFaultAs (roles.a_guard vars names) form) c.at.result c.place.result (place_of form) _ c.at.ensures (c.place.ensures text)
    (short_guard_first vars names form s.0 s.1 s.2 (let f = c.if-parts-lt3.true in omega (arith, count, f)))

pub returns-in_err-guard-clause-fault : goal.returns-in_err-guard-clause-fault
returns-in_err-guard-clause-fault c =
    let p = err_from_is_err_and c.from_residual.result c.from_residual.ensures.1 in
    let text = c.args.text.now in
    let form = sexp_form text c.args.form.now in
    let s = c.sexps_are_forms.ensures.stands text c.args.form.now c.requires.of in
    let parts = c.in-Some.parts.now in
    let is = c.in-Some.ensures.parts text in
    let vars = c.args.vars.now in
    let names = c.args.names.now in
    let count = count_form text form (place_of form) parts is in
    let enough : 3 ≤ length (parts_of form) = (let f = c.if-parts-lt3.false in omega (arith, count, f)) in
    let first = sexp_form text c.index-parts-1.result in
    let g1 = nth_part text form (place_of form) parts 1 c.index-parts-1.result is (let f = c.if-parts-lt3.false in omega (arith, f)) c.index-parts-1.is in
    rw (p.1, p.2)
    (told_of_part (IsFaultAs (term (term_scope vars) (Some sorts.Word)) first) (IsProcFaultAs (roles.a_guard vars names) form)
    (λ k kind one. guard_term_first vars names form first g1 enough s.0 s.1 k kind s.2 one) c.in_err-guard.field-0.0 c.in_err-guard.ensures.fault)

pub returns-in_err-other-clause-fault : goal.returns-in_err-other-clause-fault
returns-in_err-other-clause-fault c =
    let p = err_from_is_err_and c.from_residual-in_err-other.result c.from_residual-in_err-other.ensures.1 in
    let text = c.args.text.now in
    let form = sexp_form text c.args.form.now in
    let s = c.sexps_are_forms.ensures.stands text c.args.form.now c.requires.of in
    let parts = c.in-Some.parts.now in
    let is = c.in-Some.ensures.parts text in
    let vars = c.args.vars.now in
    let names = c.args.names.now in
    let count = count_form text form (place_of form) parts is in
    let enough : 3 ≤ length (parts_of form) = (let f = c.if-parts-lt3.false in omega (arith, count, f)) in
    let first = sexp_form text c.index-parts-1.result in
    let g1 = nth_part text form (place_of form) parts 1 c.index-parts-1.result is (let f = c.if-parts-lt3.false in omega (arith, f)) c.index-parts-1.is in
    let clear : IsClear (term (term_scope vars) (Some sorts.Word)) first =
    λ place kind. c.terms_have_one_reading.ensures.clear (term_scope vars) (Some sorts.Word) first (tree_of c.in_ok-guard.guard) place kind (record { sort = sorts.Word; wanted_one = refl; writes = c.in_ok-guard.ensures.term }) in
    let second = sexp_form text c.index-parts-2.result in
    let g2 = nth_part text form (place_of form) parts 2 c.index-parts-2.result is (let f = c.if-parts-lt3.false in omega (arith, f)) c.index-parts-2.is in
    rw (p.1, p.2)
    (told_of_part (IsProcFaultAs (roles.a_target names) second) (IsProcFaultAs (roles.a_guard vars names) form)
    (λ k kind one. guard_target_first vars names form first g1 enough clear second g2 s.0 s.1 k kind s.2 one) c.in_err-other.field-0.0 c.in_err-other.ensures.fault)

pub returns-then-parts-gt3-clause-fault : goal.returns-then-parts-gt3-clause-fault
returns-then-parts-gt3-clause-fault c =
    let text = c.args.text.now in
    let form = sexp_form text c.args.form.now in
    let s = c.sexps_are_forms.ensures.stands text c.args.form.now c.requires.of in
    let parts = c.in-Some.parts.now in
    let is = c.in-Some.ensures.parts text in
    let vars = c.args.vars.now in
    let names = c.args.names.now in
    let count = count_form text form (place_of form) parts is in
    let enough : 3 ≤ length (parts_of form) = (let f = c.if-parts-lt3.false in omega (arith, count, f)) in
    let first = sexp_form text c.index-parts-1.result in
    let g1 = nth_part text form (place_of form) parts 1 c.index-parts-1.result is (let f = c.if-parts-lt3.false in omega (arith, f)) c.index-parts-1.is in
    let clear : IsClear (term (term_scope vars) (Some sorts.Word)) first =
    λ place kind. c.terms_have_one_reading.ensures.clear (term_scope vars) (Some sorts.Word) first (tree_of c.in_ok-guard.guard) place kind (record { sort = sorts.Word; wanted_one = refl; writes = c.in_ok-guard.ensures.term }) in
    let second = sexp_form text c.index-parts-2.result in
    let g2 = nth_part text form (place_of form) parts 2 c.index-parts-2.result is (let f = c.if-parts-lt3.false in omega (arith, f)) c.index-parts-2.is in
    let third = sexp_form text c.index-parts-3.result in
    let g3 = nth_part text form (place_of form) parts 3 c.index-parts-3.result is c.if-parts-gt3.true c.index-parts-3.is in
    let of = c.sexps_are_forms.ensures.stands text c.index-parts-3.result (part_of text parts 3 c.index-parts-3.result (c.in-Some.ensures.of text c.requires.of) c.if-parts-gt3.true c.index-parts-3.is) in
    told (IsProcFaultAs (roles.a_guard vars names) form) c.at-then-parts-gt3.result c.place-then-parts-gt3.result (place_of third) _ c.at-then-parts-gt3.ensures (c.place-then-parts-gt3.ensures text)
    (guard_third_first vars names form first g1 enough clear second g2 c.in_ok-other.ensures.clear s.0 s.1 third of.0 of.1 s.2 of.2 g3)

pub returns-clause-when : goal.returns-clause-when
returns-clause-when c =
    let text = c.args.text.now in
    let form = sexp_form text c.args.form.now in
    let s = c.sexps_are_forms.ensures.stands text c.args.form.now c.requires.of in
    let parts = c.in-Some.parts.now in
    let is = c.in-Some.ensures.parts text in
    let vars = c.args.vars.now in
    let names = c.args.names.now in
    let count = count_form text form (place_of form) parts is in
    let enough : 3 ≤ length (parts_of form) = (let f = c.if-parts-lt3.false in omega (arith, count, f)) in
    let first = sexp_form text c.index-parts-1.result in
    let g1 = nth_part text form (place_of form) parts 1 c.index-parts-1.result is (let f = c.if-parts-lt3.false in omega (arith, f)) c.index-parts-1.is in
    let clear : IsClear (term (term_scope vars) (Some sorts.Word)) first =
    λ place kind. c.terms_have_one_reading.ensures.clear (term_scope vars) (Some sorts.Word) first (tree_of c.in_ok-guard.guard) place kind (record { sort = sorts.Word; wanted_one = refl; writes = c.in_ok-guard.ensures.term }) in
    let second = sexp_form text c.index-parts-2.result in
    let g2 = nth_part text form (place_of form) parts 2 c.index-parts-2.result is (let f = c.if-parts-lt3.false in omega (arith, f)) c.index-parts-2.is in
    guard_writes vars names form first second (when_view (record { guard = c.in_ok-guard.guard; other = c.in_ok-other.other })) c.requires.head g1 g2 (let f = c.if-parts-gt3.false in omega (arith, count, f)) c.in_ok-guard.ensures.term c.in_ok-other.ensures.target

pub returns-clause-clear : goal.returns-clause-clear
returns-clause-clear c =
    let text = c.args.text.now in
    let form = sexp_form text c.args.form.now in
    let s = c.sexps_are_forms.ensures.stands text c.args.form.now c.requires.of in
    let parts = c.in-Some.parts.now in
    let is = c.in-Some.ensures.parts text in
    let vars = c.args.vars.now in
    let names = c.args.names.now in
    let count = count_form text form (place_of form) parts is in
    let enough : 3 ≤ length (parts_of form) = (let f = c.if-parts-lt3.false in omega (arith, count, f)) in
    let first = sexp_form text c.index-parts-1.result in
    let g1 = nth_part text form (place_of form) parts 1 c.index-parts-1.result is (let f = c.if-parts-lt3.false in omega (arith, f)) c.index-parts-1.is in
    let clear : IsClear (term (term_scope vars) (Some sorts.Word)) first =
    λ place kind. c.terms_have_one_reading.ensures.clear (term_scope vars) (Some sorts.Word) first (tree_of c.in_ok-guard.guard) place kind (record { sort = sorts.Word; wanted_one = refl; writes = c.in_ok-guard.ensures.term }) in
    let second = sexp_form text c.index-parts-2.result in
    let g2 = nth_part text form (place_of form) parts 2 c.index-parts-2.result is (let f = c.if-parts-lt3.false in omega (arith, f)) c.index-parts-2.is in
    guard_clear vars names form first g1 enough clear second g2 c.in_ok-other.ensures.clear (let f = c.if-parts-gt3.false in omega (arith, count, f))
