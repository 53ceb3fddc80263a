use Rattle.std.proofs.Common.{◌∙◌, ap, sym}
use Rattle.forms.specs.Forms.{place_of, sexp_form}
use Rattle.forms.proofs.Told.{told}
use Rattle.goal_reader.specs.Roles as roles
use Rattle.goal_reader.specs.Roles.{IsFaultAs, register_number, ◌>>=◌}
use Rattle.goal_reader.proofs.NewNames.{bad_register_first, given_first, no_register_first}
use Rattle.code_lift.proofs.registers.fresh_register.Goals as goal

pub returns-in_default-clause-fault : goal.returns-in_default-clause-fault
returns-in_default-clause-fault c =
    let text = c.args.text.now in
    let form = sexp_form text c.args.form.now in
    let given = c.args.given.now in
    let s = c.sexps_are_forms.ensures.stands text c.args.form.now c.requires.of in
    told (IsFaultAs (roles.fresh_register given) form) c.at.result c.place.result (place_of form) _ c.at.ensures (c.place.ensures text)
    (no_register_first given form s.0 s.1 s.2 c.in_default.ensures)

pub returns-in_default-register_number-clause-fault : goal.returns-in_default-register_number-clause-fault
returns-in_default-register_number-clause-fault c =
    let text = c.args.text.now in
    let form = sexp_form text c.args.form.now in
    let given = c.args.given.now in
    let s = c.sexps_are_forms.ensures.stands text c.args.form.now c.requires.of in
    told (IsFaultAs (roles.fresh_register given) form) c.at-in_default-register_number.result c.place-in_default-register_number.result (place_of form) _
    c.at-in_default-register_number.ensures (c.place-in_default-register_number.ensures text)
    (bad_register_first given form s.0 s.1 s.2 c.in-Some.bytes.now c.in-Some.ensures (sym c.in_default-register_number.ensures))

pub returns-then-contains-clause-fault : goal.returns-then-contains-clause-fault
returns-then-contains-clause-fault c =
    let text = c.args.text.now in
    let form = sexp_form text c.args.form.now in
    let given = c.args.given.now in
    let s = c.sexps_are_forms.ensures.stands text c.args.form.now c.requires.of in
    let number = c.in-Some-register_number.number in
    told (IsFaultAs (roles.fresh_register given) form) c.at-then-contains.result c.place-then-contains.result (place_of form) _ c.at-then-contains.ensures (c.place-then-contains.ensures text)
    (given_first given form s.0 s.1 s.2 number (ap (λ o. o >>= register_number) c.in-Some.ensures ∙ sym c.in-Some-register_number.ensures) (sym c.contains.ensures.value ∙ c.if-contains.true))
