use Rattle.std.proofs.Common.{◌≡◌, ◌≢◌, ℕ, ◌==◌, not, true, inl, inr, sym, ap, subst}
use Rattle.std.proofs.lemmas.Bool.Decides.{eqb_tells}
use Rattle.forms.specs.Forms.{place_of, sexp_form}
use Rattle.forms.proofs.Told.{told}
use Rattle.code_check.specs.CodeRoles as roles
use Rattle.code_check.specs.CodeRoles.{IsCodeFaultAs}
use Rattle.code_check.specs.Codes.{is_other}
use Rattle.code_check.proofs.Leaves.{bad_register_first, form_first, other_register_first, register_writes}
use Rattle.code_check.proofs.places.place_register.Goals as goal

pub returns-in_default-clause-fault : goal.returns-in_default-clause-fault
returns-in_default-clause-fault c =
    let text = c.args.text.now in
    let form = sexp_form text c.args.form.now in
    let s = c.sexps_are_forms.ensures.stands text c.args.form.now c.requires.of in
    told (IsCodeFaultAs (roles.a_register c.args.pin) form) c.at.result c.place.result (place_of form) _ c.at.ensures (c.place.ensures text)
    (form_first (roles.a_register c.args.pin) form s.0 s.1 s.2 (roles.no_register c.in_default.ensures))

pub returns-in_default-register_number-clause-fault : goal.returns-in_default-register_number-clause-fault
returns-in_default-register_number-clause-fault c =
    let text = c.args.text.now in
    let form = sexp_form text c.args.form.now in
    let s = c.sexps_are_forms.ensures.stands text c.args.form.now c.requires.of in
    told (IsCodeFaultAs (roles.a_register c.args.pin) form) c.at-in_default-register_number.result c.place-in_default-register_number.result (place_of form) _ c.at-in_default-register_number.ensures (c.place-in_default-register_number.ensures text)
    (bad_register_first c.args.pin form s.0 s.1 c.in-Some.bytes.now s.2 c.in-Some.ensures (sym c.in_default-register_number.ensures))

is_apart : (p q : ℕ) → p ≢ q → not (p == q) ≡ true
is_apart p q apart = elim (eqb_tells p q) [
  | inl k ↦ absurd (apart k.1)
  | inr k ↦ ap not k.0
]

pub returns-in-Some-pin-clause-fault : goal.returns-in-Some-pin-clause-fault
returns-in-Some-pin-clause-fault c =
    let text = c.args.text.now in
    let form = sexp_form text c.args.form.now in
    let s = c.sexps_are_forms.ensures.stands text c.args.form.now c.requires.of in
    let number = c.in-Some-register_number.number in
    let other : is_other c.args.pin number ≡ true = subst (λ o. is_other o number ≡ true) (sym c.in-Some-pin.is) (is_apart c.in-Some-pin.pin number c.if-pin-number.true) in
    told (IsCodeFaultAs (roles.a_register c.args.pin) form) c.at-in-Some-pin.result c.place-in-Some-pin.result (place_of form) _ c.at-in-Some-pin.ensures (c.place-in-Some-pin.ensures text)
    (other_register_first c.args.pin form s.0 s.1 c.in-Some.bytes.now number s.2 c.in-Some.ensures (sym c.in-Some-register_number.ensures) other)

pub returns-in_default-pin-clause-register : goal.returns-in_default-pin-clause-register
returns-in_default-pin-clause-register c = register_writes (sexp_form c.args.text.now c.args.form.now) c.in-Some.bytes.now c.in-Some-register_number.number c.in-Some.ensures (sym c.in-Some-register_number.ensures)

pub returns-in_default-pin-2-clause-register : goal.returns-in_default-pin-2-clause-register
returns-in_default-pin-2-clause-register c = register_writes (sexp_form c.args.text.now c.args.form.now) c.in-Some.bytes.now c.in-Some-register_number.number c.in-Some.ensures (sym c.in-Some-register_number.ensures)
