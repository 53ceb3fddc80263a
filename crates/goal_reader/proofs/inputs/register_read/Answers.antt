use Rattle.std.proofs.Common.{sym}
use Rattle.forms.specs.Forms.{place_of, sexp_form}
use Rattle.forms.proofs.Told.{told}
use Rattle.goal_reader.specs.Roles as roles
use Rattle.goal_reader.specs.Roles.{IsFaultAs}
use Rattle.goal_reader.proofs.NewNames.{no_register_first, bad_register_first}
use Rattle.goal_reader.proofs.inputs.register_read.Goals as goal

pub returns-in_default-clause-fault : goal.returns-in_default-clause-fault
returns-in_default-clause-fault c = λ given.
    let text = c.args.text.now in
    let form = sexp_form text c.args.form.now in
    let s = c.sexps_are_forms.ensures.stands text c.args.form.now c.requires.of in
    told (IsFaultAs (roles.fresh_register given) form) c.at.result c.place.result (place_of form) _ c.at.ensures (c.place.ensures text)
    (no_register_first given form s.0 s.1 s.2 c.in_default.ensures)

pub returns-in_default-register_number-clause-fault : goal.returns-in_default-register_number-clause-fault
returns-in_default-register_number-clause-fault c = λ given.
    let text = c.args.text.now in
    let form = sexp_form text c.args.form.now in
    let s = c.sexps_are_forms.ensures.stands text c.args.form.now c.requires.of in
    told (IsFaultAs (roles.fresh_register given) form) c.at-in_default-register_number.result c.place-in_default-register_number.result (place_of form) _ c.at-in_default-register_number.ensures (c.place-in_default-register_number.ensures text)
    (bad_register_first given form s.0 s.1 s.2 c.in-Some.bytes.now c.in-Some.ensures (sym c.in_default-register_number.ensures))
