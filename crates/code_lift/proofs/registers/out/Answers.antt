use Rattle.std.proofs.Common.{◌≡◌, ◌+◌, ◌<◌, ◌≤◌, ◌∷◌, ◌++◌, ◌∙◌, [], false, if◌then◌else◌, length, sym, ap, subst, arith}
use mir.Val.{bool_byte}
use Rattle.std.proofs.lemmas.Result.{err_from_is_err_and}
use Rattle.text_core.specs.Faults.{IsFaultBy, IsFirst}
use Rattle.text_core.specs.declared.faults.Kind.TheVariants.{BadForm}
use Rattle.forms.specs.Forms.{parts_of, place_of, sexp_form}
use Rattle.forms.proofs.Told.{told, told_of_part}
use Rattle.goal_meaning.specs.Rules.{has_register}
use Rattle.goal_reader.specs.Roles as goal_roles
use Rattle.goal_reader.specs.Roles.{IsFaultAs}
use Rattle.goal_reader.proofs.NewNames.{count_form, nth_part, part_of}
use Rattle.code_lift.specs.LiftReading.{IsFirstInLift}
use Rattle.code_lift.specs.LiftRoles as roles
use Rattle.code_lift.specs.LiftRoles.{IsLiftFaultAs, LiftRole}
use Rattle.code_lift.specs.Lifted.{sets_of}
use Rattle.code_lift.specs.LiftingView.{lifting_view}
use Rattle.code_lift.proofs.LiftLeaves.{wrong_first}
use Rattle.code_lift.proofs.RegistersRead.{AreOutRead, sets_more, low_register, no_out_read, no_sets, out_more, out_part_first, out_sets_first, out_written}
use Rattle.code_lift.proofs.registers.out.Goals as goal

pub returns-then-not-has_head-clause-fault : goal.returns-then-not-has_head-clause-fault
returns-then-not-has_head-clause-fault c = λ words known.
    let text = c.args.text.now in
    let form = sexp_form text c.args.form.now in
    let s = c.sexps_are_forms.ensures.stands text c.args.form.now c.requires.of in
    let role : roles.out_role words form ≡ roles.wrong = ap (λ b. if b then roles.an_out words else roles.wrong) (sym c.has_head.ensures ∙ c.if-not-has_head.true) in
    told (IsLiftFaultAs (roles.out_role words form) form) c.at.result c.place.result (place_of form) _ c.at.ensures (c.place.ensures text)
    (subst (λ (r : LiftRole). IsFirstInLift r form (place_of form) BadForm) (sym role) (wrong_first form s.0 s.1 s.2))

pub loop-index-init : goal.loop-index-init
loop-index-init c =
    let form = sexp_form c.args.text.now c.args.form.now in
    let s = lifting_view c.args.lifting.now in
    record {
      read = subst (λ rs. AreOutRead s form 1 rs) (sym c.new-out.ensures) (no_out_read s form);
      count = c.from-sets.ensures ∙ ap bool_byte c.is_some.ensures ∙ sym (no_sets s) ∙ ap (λ rs. length (sets_of s rs)) (sym c.new-out.ensures);
    }

pub returns-in_err-register-clause-fault : goal.returns-in_err-register-clause-fault
returns-in_err-register-clause-fault c =
    let p = err_from_is_err_and c.from_residual.result c.from_residual.ensures.1 in
    rw (p.1, p.2) (λ words known.
    let text = c.args.text.now in
    let form = sexp_form text c.args.form.now in
    let head = sym c.has_head.ensures ∙ c.if-not-has_head.false in
    let s = c.sexps_are_forms.ensures.stands text c.args.form.now c.requires.of in
    let parts = c.in-Some.parts.now in
    let is = c.in-Some.ensures.parts text in
    let i = c.loop-index.index in
    let inv = c.loop-index.invariant in
    let out = c.loop-index.out in
    let g = nth_part text form (place_of form) parts i c.index-parts-index.result is c.loop-index-test.true c.index-parts-index.is in
    let part = sexp_form text c.index-parts-index.result in
    told_of_part (IsFaultAs (goal_roles.fresh_register out) part) (IsLiftFaultAs (roles.out_role words form) form)
    (λ k kind one. out_part_first (lifting_view c.args.lifting.now) form head s.0 s.1 s.2 words known i out inv.read c.loop-index.auto.index part g k kind one)
    c.in_err-register.field-0.0 (subst (λ rs. IsFaultBy (IsFirst (IsFaultAs (goal_roles.fresh_register rs) part)) c.in_err-register.field-0.0) c.as_slice.ensures c.in_err-register.ensures.fault))

pub has_let-requires : goal.has_let-requires
has_let-requires c =
    let low = low_register (sexp_form c.args.text.now c.index-parts-index.result) c.in_ok-register.register c.in_ok-register.ensures.register in
    omega (arith, low)

pub returns-then-sets-gt-MOST_SETS-clause-fault : goal.returns-then-sets-gt-MOST_SETS-clause-fault
returns-then-sets-gt-MOST_SETS-clause-fault c = λ words known.
    let text = c.args.text.now in
    let form = sexp_form text c.args.form.now in
    let lifting = lifting_view c.args.lifting.now in
    let head = sym c.has_head.ensures ∙ c.if-not-has_head.false in
    let s = c.sexps_are_forms.ensures.stands text c.args.form.now c.requires.of in
    let parts = c.in-Some.parts.now in
    let is = c.in-Some.ensures.parts text in
    let i = c.loop-index.index in
    let inv = c.loop-index.invariant in
    let out = c.loop-index.out in
    let r = c.in_ok-register.register in
    let g = nth_part text form (place_of form) parts i c.index-parts-index.result is c.loop-index-test.true c.index-parts-index.is in
    let part = sexp_form text c.index-parts-index.result in
    let of = c.sexps_are_forms.ensures.stands text c.index-parts-index.result (part_of text parts i c.index-parts-index.result (c.in-Some.ensures.of text c.requires.of) c.loop-index-test.true c.index-parts-index.is) in
    let fresh : has_register out r ≡ false = sym (ap (λ rs. has_register rs r) c.as_slice.ensures) ∙ c.in_ok-register.ensures.fresh in
    let count = inv.count in
    let more = sets_more lifting out r in
    let byte = c.from-sets-in-loop-index.ensures ∙ ap bool_byte c.has_let.ensures in
    let many : 16 < length (sets_of lifting (out ++ r ∷ [])) = (let l = c.if-sets-gt-MOST_SETS.true in omega (arith, l, count, more, byte)) in
    told (IsLiftFaultAs (roles.out_role words form) form) c.at-then-sets-gt-MOST_SETS.result c.place-then-sets-gt-MOST_SETS.result (place_of part) _ c.at-then-sets-gt-MOST_SETS.ensures (c.place-then-sets-gt-MOST_SETS.ensures text)
    (out_sets_first lifting form head s.0 s.1 s.2 words known i out inv.read c.loop-index.auto.index part g of.0 of.1 of.2 r c.in_ok-register.ensures.register fresh many)

pub loop-index-preserved : goal.loop-index-preserved
loop-index-preserved c =
    let text = c.args.text.now in
    let form = sexp_form text c.args.form.now in
    let lifting = lifting_view c.args.lifting.now in
    let parts = c.in-Some.parts.now in
    let is = c.in-Some.ensures.parts text in
    let i = c.loop-index.index in
    let inv = c.loop-index.invariant in
    let out = c.loop-index.out in
    let r = c.in_ok-register.register in
    let g = nth_part text form (place_of form) parts i c.index-parts-index.result is c.loop-index-test.true c.index-parts-index.is in
    let part = sexp_form text c.index-parts-index.result in
    let fresh : has_register out r ≡ false = sym (ap (λ rs. has_register rs r) c.as_slice.ensures) ∙ c.in_ok-register.ensures.fresh in
    let count = inv.count in
    let more = sets_more lifting out r in
    let byte = c.from-sets-in-loop-index.ensures ∙ ap bool_byte c.has_let.ensures in
    let few : length (sets_of lifting (out ++ r ∷ [])) ≤ 16 = (let l = c.if-sets-gt-MOST_SETS.false in omega (arith, l, count, more, byte)) in
    let now : c.loop-index.sets + c.from-sets-in-loop-index.result ≡ length (sets_of lifting (out ++ r ∷ [])) = omega (arith, count, more, byte) in
    record {
      read = subst (λ rs. AreOutRead lifting form (i + 1) rs) (sym c.in_ok-push.ensures.ok) (out_more lifting form i out part r inv.read c.loop-index.auto.index g c.in_ok-register.ensures.register fresh few);
      count = now ∙ ap (λ rs. length (sets_of lifting rs)) (sym c.in_ok-push.ensures.ok);
    }

pub returns-clause-out : goal.returns-clause-out
returns-clause-out c =
    let text = c.args.text.now in
    let form = sexp_form text c.args.form.now in
    let parts = c.in-Some.parts.now in
    let is = c.in-Some.ensures.parts text in
    let count = count_form text form (place_of form) parts is in
    let i = c.loop-index.index in
    let most : length (parts_of form) ≤ i = (let f = c.loop-index-test.false in omega (arith, f, count)) in
    out_written (lifting_view c.args.lifting.now) form i c.loop-index.out (sym c.has_head.ensures ∙ c.if-not-has_head.false) most c.loop-index.invariant.read
