use Rattle.std.proofs.Common.{◌≡◌, false, ◌<◌, ◌≤◌, List, Some, codes, length, sym, ◌∙◌, ap, refl, subst, arith}
use Rattle.std.proofs.lemmas.Result.{err_from_is_err_and}
use Rattle.text_core.specs.Faults.{IsFaultBy, IsFirst}
use Rattle.text_core.specs.Names.{is_among}
use Rattle.text_core.specs.declared.faults.Kind.TheVariants.{BadForm}
use Rattle.forms.specs.Forms.{Form, place_of, sexp_form, parts_of}
use Rattle.forms.proofs.Told.{told, told_of_part}
use Rattle.goal_meaning.specs.Views.{target_view}
use Rattle.goal_meaning.specs.WellFormed.{sort_of_target}
use Rattle.goal_reader.specs.GoalTerms.{term_scope}
use Rattle.goal_reader.specs.Reading.{IsClear, names_of_targets}
use Rattle.goal_reader.specs.Roles.{IsFaultAs, term}
use Rattle.goal_reader.specs.Terms.{Writes}
use Rattle.goal_reader.proofs.NewNames.{nth_part, part_of, count_form}
use Rattle.word_ops.specs.declared.sorts.Sort.{Sort}
use Rattle.word_terms.specs.View.{tree_of}
use Rattle.proc_goal.specs.ProcReading.{IsNameToSet}
use Rattle.proc_goal.specs.ProcRoles as roles
use Rattle.proc_goal.specs.ProcRoles.{IsProcFaultAs}
use Rattle.proc_goal.proofs.Items.{head_is_list}
use Rattle.proc_goal.proofs.ListForms.{set_clear, set_name_first, set_third_first, set_value_first, set_writes, short_set_first}
use Rattle.proc_goal.proofs.sets.set.Goals as goal

pub unreachable-requires : goal.unreachable-requires
unreachable-requires c =
    head_is_list (codes "set") (sexp_form c.args.text.now c.args.form.now) c.requires.head (c.in_default.ensures.parts c.args.text.now)

pub returns-then-parts-lt3-clause-fault : goal.returns-then-parts-lt3-clause-fault
returns-then-parts-lt3-clause-fault c =
    let text = c.args.text.now in
    let form = sexp_form text c.args.form.now in
    let s = c.sexps_are_forms.ensures.stands text c.args.form.now c.requires.of in
    let parts = c.in-Some.parts.now in
    let is = c.in-Some.ensures.parts text in
    let vars = c.args.vars.now in
    let given = names_of_targets c.args.before.now in
    let count = count_form text form (place_of form) parts is in
    told (IsProcFaultAs (roles.a_set vars given) form) c.at.result c.place.result (place_of form) _ c.at.ensures (c.place.ensures text)
    (short_set_first vars given form s.0 s.1 s.2 (let f = c.if-parts-lt3.true in omega (arith, count, f)))

pub returns-in_err-named-clause-fault : goal.returns-in_err-named-clause-fault
returns-in_err-named-clause-fault c =
    let p = err_from_is_err_and c.from_residual.result c.from_residual.ensures.1 in
    let text = c.args.text.now in
    let form = sexp_form text c.args.form.now in
    let s = c.sexps_are_forms.ensures.stands text c.args.form.now c.requires.of in
    let parts = c.in-Some.parts.now in
    let is = c.in-Some.ensures.parts text in
    let vars = c.args.vars.now in
    let given = names_of_targets c.args.before.now in
    let count = count_form text form (place_of form) parts is in
    let enough : 3 ≤ length (parts_of form) = (let f = c.if-parts-lt3.false in omega (arith, count, f)) in
    let first = sexp_form text c.index-parts-1.result in
    let g1 = nth_part text form (place_of form) parts 1 c.index-parts-1.result is (let f = c.if-parts-lt3.false in omega (arith, f)) c.index-parts-1.is in
    rw (p.1, p.2)
    (told_of_part (IsProcFaultAs (roles.set_name vars given) first) (IsProcFaultAs (roles.a_set vars given) form)
    (λ k kind one. set_name_first vars given form first g1 enough s.0 s.1 k kind s.2 one) c.in_err-named.field-0.0 c.in_err-named.ensures.fault)

pub returns-in_err-value-clause-fault : goal.returns-in_err-value-clause-fault
returns-in_err-value-clause-fault c =
    let p = err_from_is_err_and c.from_residual-in_err-value.result c.from_residual-in_err-value.ensures.1 in
    let text = c.args.text.now in
    let form = sexp_form text c.args.form.now in
    let s = c.sexps_are_forms.ensures.stands text c.args.form.now c.requires.of in
    let parts = c.in-Some.parts.now in
    let is = c.in-Some.ensures.parts text in
    let vars = c.args.vars.now in
    let given = names_of_targets c.args.before.now in
    let count = count_form text form (place_of form) parts is in
    let enough : 3 ≤ length (parts_of form) = (let f = c.if-parts-lt3.false in omega (arith, count, f)) in
    let first = sexp_form text c.index-parts-1.result in
    let g1 = nth_part text form (place_of form) parts 1 c.index-parts-1.result is (let f = c.if-parts-lt3.false in omega (arith, f)) c.index-parts-1.is in
    let bytes = c.in_ok-named.named.0.now in
    let pin = c.in_ok-named.named.1 in
    let named = c.in_ok-named.ensures.named in
    let second = sexp_form text c.index-parts-2.result in
    let g2 = nth_part text form (place_of form) parts 2 c.index-parts-2.result is (let f = c.if-parts-lt3.false in omega (arith, f)) c.index-parts-2.is in
    let fault = subst (λ (x : Sort). IsFaultBy (IsFirst (IsFaultAs (term (term_scope vars) (Some x)) second)) c.in_err-value.field-0.0) c.sort_wanted.ensures c.in_err-value.ensures.fault in
    rw (p.1, p.2)
    (told_of_part (IsFaultAs (term (term_scope vars) (Some (sort_of_target bytes))) second) (IsProcFaultAs (roles.a_set vars given) form)
    (λ k kind one. set_value_first vars given form first g1 enough bytes pin named second g2 s.0 s.1 k kind s.2 one) c.in_err-value.field-0.0 fault)

pub returns-then-parts-gt3-clause-fault : goal.returns-then-parts-gt3-clause-fault
returns-then-parts-gt3-clause-fault c =
    let text = c.args.text.now in
    let form = sexp_form text c.args.form.now in
    let s = c.sexps_are_forms.ensures.stands text c.args.form.now c.requires.of in
    let parts = c.in-Some.parts.now in
    let is = c.in-Some.ensures.parts text in
    let vars = c.args.vars.now in
    let given = names_of_targets c.args.before.now in
    let count = count_form text form (place_of form) parts is in
    let enough : 3 ≤ length (parts_of form) = (let f = c.if-parts-lt3.false in omega (arith, count, f)) in
    let first = sexp_form text c.index-parts-1.result in
    let g1 = nth_part text form (place_of form) parts 1 c.index-parts-1.result is (let f = c.if-parts-lt3.false in omega (arith, f)) c.index-parts-1.is in
    let bytes = c.in_ok-named.named.0.now in
    let pin = c.in_ok-named.named.1 in
    let named = c.in_ok-named.ensures.named in
    let second = sexp_form text c.index-parts-2.result in
    let g2 = nth_part text form (place_of form) parts 2 c.index-parts-2.result is (let f = c.if-parts-lt3.false in omega (arith, f)) c.index-parts-2.is in
    let sort = c.sort_wanted.ensures in
    let writes = subst (λ (x : Sort). Writes (term_scope vars) x second (tree_of c.in_ok-value.value)) sort c.in_ok-value.ensures.term in
    let clear : IsClear (term (term_scope vars) (Some (sort_of_target bytes))) second =
    λ place kind. c.terms_have_one_reading.ensures.clear (term_scope vars) (Some (sort_of_target bytes)) second (tree_of c.in_ok-value.value) place kind (record { sort = sort_of_target bytes; wanted_one = refl; writes = writes }) in
    let third = sexp_form text c.index-parts-3.result in
    let g3 = nth_part text form (place_of form) parts 3 c.index-parts-3.result is c.if-parts-gt3.true c.index-parts-3.is in
    let of = c.sexps_are_forms.ensures.stands text c.index-parts-3.result (part_of text parts 3 c.index-parts-3.result (c.in-Some.ensures.of text c.requires.of) c.if-parts-gt3.true c.index-parts-3.is) in
    told (IsProcFaultAs (roles.a_set vars given) form) c.at-then-parts-gt3.result c.place-then-parts-gt3.result (place_of third) _ c.at-then-parts-gt3.ensures (c.place-then-parts-gt3.ensures text)
    (set_third_first vars given form first g1 enough bytes pin named second g2 clear s.0 s.1 third of.0 of.1 s.2 of.2 g3)

pub returns-clause-set : goal.returns-clause-set
returns-clause-set c =
    let text = c.args.text.now in
    let form = sexp_form text c.args.form.now in
    let s = c.sexps_are_forms.ensures.stands text c.args.form.now c.requires.of in
    let parts = c.in-Some.parts.now in
    let is = c.in-Some.ensures.parts text in
    let vars = c.args.vars.now in
    let given = names_of_targets c.args.before.now in
    let count = count_form text form (place_of form) parts is in
    let enough : 3 ≤ length (parts_of form) = (let f = c.if-parts-lt3.false in omega (arith, count, f)) in
    let first = sexp_form text c.index-parts-1.result in
    let g1 = nth_part text form (place_of form) parts 1 c.index-parts-1.result is (let f = c.if-parts-lt3.false in omega (arith, f)) c.index-parts-1.is in
    let bytes = c.in_ok-named.named.0.now in
    let pin = c.in_ok-named.named.1 in
    let named = c.in_ok-named.ensures.named in
    let second = sexp_form text c.index-parts-2.result in
    let g2 = nth_part text form (place_of form) parts 2 c.index-parts-2.result is (let f = c.if-parts-lt3.false in omega (arith, f)) c.index-parts-2.is in
    let sort = c.sort_wanted.ensures in
    let writes = subst (λ (x : Sort). Writes (term_scope vars) x second (tree_of c.in_ok-value.value)) sort c.in_ok-value.ensures.term in
    let clear : IsClear (term (term_scope vars) (Some (sort_of_target bytes))) second =
    λ place kind. c.terms_have_one_reading.ensures.clear (term_scope vars) (Some (sort_of_target bytes)) second (tree_of c.in_ok-value.value) place kind (record { sort = sort_of_target bytes; wanted_one = refl; writes = writes }) in
    let name = c.in_ok-name.ensures in
    set_writes vars given form first second (target_view (record { name = c.in_ok-name.name; value = c.in_ok-value.value; pin = pin })) c.requires.head g1 g2 (let f = c.if-parts-gt3.false in omega (arith, count, f))
    (subst (λ n. IsNameToSet vars given first n pin) (sym name) named) (subst (λ n. Writes (term_scope vars) (sort_of_target n) second (tree_of c.in_ok-value.value)) (sym name) writes)

pub returns-clause-fresh : goal.returns-clause-fresh
returns-clause-fresh c = subst (λ n. is_among (names_of_targets c.args.before.now) n ≡ false) (sym c.in_ok-name.ensures) c.in_ok-named.ensures.named.fresh

pub returns-clause-clear : goal.returns-clause-clear
returns-clause-clear c =
    let text = c.args.text.now in
    let form = sexp_form text c.args.form.now in
    let s = c.sexps_are_forms.ensures.stands text c.args.form.now c.requires.of in
    let parts = c.in-Some.parts.now in
    let is = c.in-Some.ensures.parts text in
    let vars = c.args.vars.now in
    let given = names_of_targets c.args.before.now in
    let count = count_form text form (place_of form) parts is in
    let enough : 3 ≤ length (parts_of form) = (let f = c.if-parts-lt3.false in omega (arith, count, f)) in
    let first = sexp_form text c.index-parts-1.result in
    let g1 = nth_part text form (place_of form) parts 1 c.index-parts-1.result is (let f = c.if-parts-lt3.false in omega (arith, f)) c.index-parts-1.is in
    let bytes = c.in_ok-named.named.0.now in
    let pin = c.in_ok-named.named.1 in
    let named = c.in_ok-named.ensures.named in
    let second = sexp_form text c.index-parts-2.result in
    let g2 = nth_part text form (place_of form) parts 2 c.index-parts-2.result is (let f = c.if-parts-lt3.false in omega (arith, f)) c.index-parts-2.is in
    let sort = c.sort_wanted.ensures in
    let writes = subst (λ (x : Sort). Writes (term_scope vars) x second (tree_of c.in_ok-value.value)) sort c.in_ok-value.ensures.term in
    let clear : IsClear (term (term_scope vars) (Some (sort_of_target bytes))) second =
    λ place kind. c.terms_have_one_reading.ensures.clear (term_scope vars) (Some (sort_of_target bytes)) second (tree_of c.in_ok-value.value) place kind (record { sort = sort_of_target bytes; wanted_one = refl; writes = writes }) in
    set_clear vars given form first g1 enough bytes pin named second g2 clear (let f = c.if-parts-gt3.false in omega (arith, count, f))
