use Rattle.std.proofs.Common.{◌≡◌, ℕ, ◌≤◌, Option, codes, length, map, true, false, sym, ◌∙◌, subst, arith, inl, inr}
use Rattle.std.proofs.lemmas.Result.{err_from_is_err_and}
use Rattle.text_core.specs.Faults.{IsFaultBy}
use Rattle.text_core.specs.declared.faults.Kind.TheVariants.{BadForm}
use Rattle.forms.specs.Forms.{place_of, parts_of, sexp_form, sexp_forms}
use Rattle.forms.proofs.Told.{told, told_of_part}
use Rattle.goal_meaning.specs.Views.{target_view}
use Rattle.goal_meaning.specs.declared.goals.Set.{Set}
use Rattle.code_check.specs.CodeReading.{IsFirstCodeFault}
use Rattle.code_check.specs.CodeRoles as roles
use Rattle.code_check.specs.CodeRoles.{CodeRole, IsCodeFaultAs, has_head, place_role, targets_named}
use Rattle.code_check.proofs.FormLists.{count_form, nth_part, part_of}
use Rattle.code_check.specs.Codes.{is_other}
use Rattle.code_check.specs.declared.codes.At.{At}
use Rattle.code_check.proofs.CodePlaces.{at_role, fresh_clear, fresh_pin, low_target, name_first, no_three, place_is_clear, place_writes, register_first, register_is_clear, short_role_first, third_first}
use Rattle.code_check.proofs.Comparisons.{set_there}
use Rattle.code_check.proofs.places.read_place.Goals as goal

pub returns-in_default-clause-fault : goal.returns-in_default-clause-fault
returns-in_default-clause-fault c =
    let text = c.args.text.now in
    let form = sexp_form text c.args.form.now in
    let sets = map target_view c.args.sets.now in
    let before = sexp_forms text c.args.before.now in
    let s = c.sexps_are_forms.ensures.stands text c.args.form.now c.requires.of in
    told (IsCodeFaultAs (place_role sets before form) form) c.at.result c.place.result (place_of form) _ c.at.ensures (c.place.ensures text)
    (short_role_first sets before form s.0 s.1 s.2 (inl (no_three form (c.in_default.ensures.parts text))))

pub returns-then-parts-lt3-clause-fault : goal.returns-then-parts-lt3-clause-fault
returns-then-parts-lt3-clause-fault c =
    let text = c.args.text.now in
    let form = sexp_form text c.args.form.now in
    let sets = map target_view c.args.sets.now in
    let before = sexp_forms text c.args.before.now in
    let s = c.sexps_are_forms.ensures.stands text c.args.form.now c.requires.of in
    let count = count_form text form (place_of form) c.in-Some.parts.now (c.in-Some.ensures.parts text) in
    told (IsCodeFaultAs (place_role sets before form) form) c.at-then-parts-lt3.result c.place-then-parts-lt3.result (place_of form) _ c.at-then-parts-lt3.ensures (c.place-then-parts-lt3.ensures text)
    (short_role_first sets before form s.0 s.1 s.2 (inl (let f = c.if-parts-lt3.true in omega (arith, count, f))))

pub returns-then-not-has_head-clause-fault : goal.returns-then-not-has_head-clause-fault
returns-then-not-has_head-clause-fault c =
    let text = c.args.text.now in
    let form = sexp_form text c.args.form.now in
    let sets = map target_view c.args.sets.now in
    let before = sexp_forms text c.args.before.now in
    let s = c.sexps_are_forms.ensures.stands text c.args.form.now c.requires.of in
    told (IsCodeFaultAs (place_role sets before form) form) c.at-then-not-has_head.result c.place-then-not-has_head.result (place_of form) _ c.at-then-not-has_head.ensures (c.place-then-not-has_head.ensures text)
    (short_role_first sets before form s.0 s.1 s.2 (inr (sym c.has_head.ensures ∙ c.if-not-has_head.true)))

pub fresh_target-requires : goal.fresh_target-requires
fresh_target-requires c = record {
  of = part_of c.args.text.now c.in-Some.parts.now 1 c.index-parts-1.result (c.in-Some.ensures.of c.args.text.now c.requires.of) (let f = c.if-parts-lt3.false in omega (arith, f)) c.index-parts-1.is;
  few = c.requires.few;
  before = c.requires.before;
}

pub returns-in_err-set-clause-fault : goal.returns-in_err-set-clause-fault
returns-in_err-set-clause-fault c =
    let p = err_from_is_err_and c.from_residual.result c.from_residual.ensures.1 in
    let text = c.args.text.now in
    let form = sexp_form text c.args.form.now in
    let sets = map target_view c.args.sets.now in
    let before = sexp_forms text c.args.before.now in
    let s = c.sexps_are_forms.ensures.stands text c.args.form.now c.requires.of in
    let parts = c.in-Some.parts.now in
    let is = c.in-Some.ensures.parts text in
    let count = count_form text form (place_of form) parts is in
    let enough : 3 ≤ length (parts_of form) = (let f = c.if-parts-lt3.false in omega (arith, count, f)) in
    let head : has_head (codes "at") form ≡ true = sym c.has_head.ensures ∙ c.if-not-has_head.false in
    let role = at_role sets before form head in
    let first = sexp_form text c.index-parts-1.result in
    let g1 = nth_part text form (place_of form) parts 1 c.index-parts-1.result is (let f = c.if-parts-lt3.false in omega (arith, f)) c.index-parts-1.is in
    rw (p.1, p.2)
    (told_of_part (IsCodeFaultAs (roles.target_name sets (targets_named before)) first) (IsCodeFaultAs (place_role sets before form) form)
    (λ k kind one. subst (λ (r : CodeRole). IsFirstCodeFault r form k kind) (sym role) (name_first sets (targets_named before) form first g1 s.0 s.1 k kind s.2 enough one))
    c.in_err-set.field-0.0 c.in_err-set.ensures.fault)

pub bounds-sets-set : goal.bounds-sets-set
bounds-sets-set c = (let target = c.in_ok-set.ensures.target in low_target c.args.sets.now c.in_ok-set.set target.found.item target.found.there)

pub place_register-requires : goal.place_register-requires
place_register-requires c = record {
  of = part_of c.args.text.now c.in-Some.parts.now 2 c.index-parts-2.result (c.in-Some.ensures.of c.args.text.now c.requires.of) (let f = c.if-parts-lt3.false in omega (arith, f)) c.index-parts-2.is;
}

pub returns-in_err-reg-clause-fault : goal.returns-in_err-reg-clause-fault
returns-in_err-reg-clause-fault c =
    let p = err_from_is_err_and c.from_residual-in_err-reg.result c.from_residual-in_err-reg.ensures.1 in
    let text = c.args.text.now in
    let form = sexp_form text c.args.form.now in
    let sets = map target_view c.args.sets.now in
    let before = sexp_forms text c.args.before.now in
    let s = c.sexps_are_forms.ensures.stands text c.args.form.now c.requires.of in
    let parts = c.in-Some.parts.now in
    let is = c.in-Some.ensures.parts text in
    let count = count_form text form (place_of form) parts is in
    let enough : 3 ≤ length (parts_of form) = (let f = c.if-parts-lt3.false in omega (arith, count, f)) in
    let head : has_head (codes "at") form ≡ true = sym c.has_head.ensures ∙ c.if-not-has_head.false in
    let role = at_role sets before form head in
    let first = sexp_form text c.index-parts-1.result in
    let g1 = nth_part text form (place_of form) parts 1 c.index-parts-1.result is (let f = c.if-parts-lt3.false in omega (arith, f)) c.index-parts-1.is in
    let target = c.in_ok-set.ensures.target in
    let there = set_there c.args.sets.now c.in_ok-set.set c.index-sets-set.result (low_target c.args.sets.now c.in_ok-set.set target.found.item target.found.there) c.index-sets-set.is in
    let second = sexp_form text c.index-parts-2.result in
    let g2 = nth_part text form (place_of form) parts 2 c.index-parts-2.result is (let f = c.if-parts-lt3.false in omega (arith, f)) c.index-parts-2.is in
    let t = target_view c.index-sets-set.result in
    let at : At = record { set = c.in_ok-set.set; reg = 0 } in
    let pin = fresh_pin sets before form first second g1 g2 at target t there in
    rw (p.1, p.2)
    (told_of_part (IsCodeFaultAs (roles.a_register t.pin) second) (IsCodeFaultAs (place_role sets before form) form)
    (λ k kind one. subst (λ (r : CodeRole). IsFirstCodeFault r form k kind) (sym role)
    (register_first sets (targets_named before) form first g1 second g2 (fresh_clear sets before form first second g1 g2 at target) s.0 s.1 k kind s.2 enough
    (subst (λ (o : Option ℕ). IsFirstCodeFault (roles.a_register o) second k kind) (sym pin) one)))
    c.in_err-reg.field-0.0
    (subst (λ (x : Set). IsFaultBy (IsFirstCodeFault (roles.a_register x.pin) second) c.in_err-reg.field-0.0) (sym c.index-sets-set.is) c.in_err-reg.ensures.fault))

pub returns-then-parts-gt3-clause-fault : goal.returns-then-parts-gt3-clause-fault
returns-then-parts-gt3-clause-fault c =
    let text = c.args.text.now in
    let form = sexp_form text c.args.form.now in
    let sets = map target_view c.args.sets.now in
    let before = sexp_forms text c.args.before.now in
    let s = c.sexps_are_forms.ensures.stands text c.args.form.now c.requires.of in
    let parts = c.in-Some.parts.now in
    let is = c.in-Some.ensures.parts text in
    let count = count_form text form (place_of form) parts is in
    let enough : 3 ≤ length (parts_of form) = (let f = c.if-parts-lt3.false in omega (arith, count, f)) in
    let head : has_head (codes "at") form ≡ true = sym c.has_head.ensures ∙ c.if-not-has_head.false in
    let role = at_role sets before form head in
    let first = sexp_form text c.index-parts-1.result in
    let g1 = nth_part text form (place_of form) parts 1 c.index-parts-1.result is (let f = c.if-parts-lt3.false in omega (arith, f)) c.index-parts-1.is in
    let target = c.in_ok-set.ensures.target in
    let there = set_there c.args.sets.now c.in_ok-set.set c.index-sets-set.result (low_target c.args.sets.now c.in_ok-set.set target.found.item target.found.there) c.index-sets-set.is in
    let second = sexp_form text c.index-parts-2.result in
    let g2 = nth_part text form (place_of form) parts 2 c.index-parts-2.result is (let f = c.if-parts-lt3.false in omega (arith, f)) c.index-parts-2.is in
    let t = target_view c.index-sets-set.result in
    let at : At = record { set = c.in_ok-set.set; reg = c.in_ok-reg.reg } in
    let pinned = subst (λ (x : Set). is_other x.pin c.in_ok-reg.reg ≡ false) (sym c.index-sets-set.is) c.in_ok-reg.ensures.pinned in
    let third = sexp_form text c.index-parts-3.result in
    let g3 = nth_part text form (place_of form) parts 3 c.index-parts-3.result is (let f = c.if-parts-gt3.true in omega (arith, f)) c.index-parts-3.is in
    let of = c.sexps_are_forms.ensures.stands text c.index-parts-3.result (part_of text parts 3 c.index-parts-3.result (c.in-Some.ensures.of text c.requires.of) (let f = c.if-parts-gt3.true in omega (arith, f)) c.index-parts-3.is) in
    told (IsCodeFaultAs (place_role sets before form) form) c.at-then-parts-gt3.result c.place-then-parts-gt3.result (place_of third) _ c.at-then-parts-gt3.ensures (c.place-then-parts-gt3.ensures text)
    (subst (λ (r : CodeRole). IsFirstCodeFault r form (place_of third) BadForm) (sym role)
    (third_first sets (targets_named before) form first g1 second g2 (fresh_clear sets before form first second g1 g2 at target)
    (register_is_clear sets before form first second g1 g2 at target t there c.in_ok-reg.ensures.register pinned)
    s.0 s.1 third of.0 of.1 s.2 of.2 g3 enough))

pub returns-clause-place : goal.returns-clause-place
returns-clause-place c =
    let text = c.args.text.now in
    let form = sexp_form text c.args.form.now in
    let sets = map target_view c.args.sets.now in
    let before = sexp_forms text c.args.before.now in
    let s = c.sexps_are_forms.ensures.stands text c.args.form.now c.requires.of in
    let parts = c.in-Some.parts.now in
    let is = c.in-Some.ensures.parts text in
    let count = count_form text form (place_of form) parts is in
    let enough : 3 ≤ length (parts_of form) = (let f = c.if-parts-lt3.false in omega (arith, count, f)) in
    let head : has_head (codes "at") form ≡ true = sym c.has_head.ensures ∙ c.if-not-has_head.false in
    let role = at_role sets before form head in
    let first = sexp_form text c.index-parts-1.result in
    let g1 = nth_part text form (place_of form) parts 1 c.index-parts-1.result is (let f = c.if-parts-lt3.false in omega (arith, f)) c.index-parts-1.is in
    let target = c.in_ok-set.ensures.target in
    let there = set_there c.args.sets.now c.in_ok-set.set c.index-sets-set.result (low_target c.args.sets.now c.in_ok-set.set target.found.item target.found.there) c.index-sets-set.is in
    let second = sexp_form text c.index-parts-2.result in
    let g2 = nth_part text form (place_of form) parts 2 c.index-parts-2.result is (let f = c.if-parts-lt3.false in omega (arith, f)) c.index-parts-2.is in
    let t = target_view c.index-sets-set.result in
    let at : At = record { set = c.in_ok-set.set; reg = c.in_ok-reg.reg } in
    let pinned = subst (λ (x : Set). is_other x.pin c.in_ok-reg.reg ≡ false) (sym c.index-sets-set.is) c.in_ok-reg.ensures.pinned in
    place_writes sets before form first second g1 g2 at target t there c.in_ok-reg.ensures.register pinned head (let f = c.if-parts-gt3.false in omega (arith, count, f))

pub returns-clause-clear : goal.returns-clause-clear
returns-clause-clear c =
    let text = c.args.text.now in
    let form = sexp_form text c.args.form.now in
    let sets = map target_view c.args.sets.now in
    let before = sexp_forms text c.args.before.now in
    let s = c.sexps_are_forms.ensures.stands text c.args.form.now c.requires.of in
    let parts = c.in-Some.parts.now in
    let is = c.in-Some.ensures.parts text in
    let count = count_form text form (place_of form) parts is in
    let enough : 3 ≤ length (parts_of form) = (let f = c.if-parts-lt3.false in omega (arith, count, f)) in
    let head : has_head (codes "at") form ≡ true = sym c.has_head.ensures ∙ c.if-not-has_head.false in
    let role = at_role sets before form head in
    let first = sexp_form text c.index-parts-1.result in
    let g1 = nth_part text form (place_of form) parts 1 c.index-parts-1.result is (let f = c.if-parts-lt3.false in omega (arith, f)) c.index-parts-1.is in
    let target = c.in_ok-set.ensures.target in
    let there = set_there c.args.sets.now c.in_ok-set.set c.index-sets-set.result (low_target c.args.sets.now c.in_ok-set.set target.found.item target.found.there) c.index-sets-set.is in
    let second = sexp_form text c.index-parts-2.result in
    let g2 = nth_part text form (place_of form) parts 2 c.index-parts-2.result is (let f = c.if-parts-lt3.false in omega (arith, f)) c.index-parts-2.is in
    let t = target_view c.index-sets-set.result in
    let at : At = record { set = c.in_ok-set.set; reg = c.in_ok-reg.reg } in
    let pinned = subst (λ (x : Set). is_other x.pin c.in_ok-reg.reg ≡ false) (sym c.index-sets-set.is) c.in_ok-reg.ensures.pinned in
    place_is_clear sets before form first second g1 g2 at target t there c.in_ok-reg.ensures.register pinned head enough (let f = c.if-parts-gt3.false in omega (arith, count, f))
