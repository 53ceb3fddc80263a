use Rattle.std.proofs.Common.{sym, ◌∙◌}
use Rattle.std.proofs.lemmas.Result.{err_from_is_err_and}
use Rattle.forms.specs.Forms.{place_of, sexp_form}
use Rattle.forms.proofs.Told.{told}
use Rattle.goal_reader.specs.Roles as roles
use Rattle.goal_reader.specs.Roles.{IsFaultAs}
use Rattle.goal_meaning.specs.WellFormed.{input_registers}
use Rattle.goal_reader.proofs.NewNames.{given_first}
use Rattle.goal_reader.proofs.inputs.fresh_register.Goals as goal

pub returns-in_err-number-clause-fault : goal.returns-in_err-number-clause-fault
returns-in_err-number-clause-fault c =
    let p = err_from_is_err_and c.from_residual.result c.from_residual.ensures.1 in
    rw (p.1, p.2) (c.in_err-number.ensures.fault (input_registers c.args.inputs.now))

pub returns-then-is_given-clause-fault : goal.returns-then-is_given-clause-fault
returns-then-is_given-clause-fault c =
    let text = c.args.text.now in
    let form = sexp_form text c.args.form.now in
    let s = c.sexps_are_forms.ensures.stands text c.args.form.now c.requires.of in
    told (IsFaultAs (roles.fresh_register (input_registers c.args.inputs.now)) form) c.at.result c.place.result (place_of form) _ c.at.ensures (c.place.ensures text)
    (given_first (input_registers c.args.inputs.now) form s.0 s.1 s.2 c.in_ok-number.number c.in_ok-number.ensures.register (sym c.is_given.ensures ∙ c.if-is_given.true))
