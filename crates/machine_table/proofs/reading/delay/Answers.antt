use Rattle.std.proofs.Common.{sym}
use Rattle.forms.proofs.Told.{told}
use Rattle.forms.specs.Forms.{place_of, sexp_form}
use Rattle.machine_table.proofs.Leaves.{form_first, delay_first}
use Rattle.machine_table.specs.Reading.{IsTableFault}
use Rattle.machine_table.specs.Roles as roles
use Rattle.machine_table.specs.Roles.{no_delay}
use Rattle.machine_table.proofs.reading.delay.Goals as goal

pub returns-in_default-clause-fault : goal.returns-in_default-clause-fault
returns-in_default-clause-fault c =
    let text = c.args.text.now in
    let form = sexp_form text c.args.form.now in
    let s = c.sexps_are_forms.ensures.stands text c.args.form.now c.requires.of in
    told (IsTableFault roles.delay form) c.at.result c.place.result (place_of form) _ c.at.ensures (c.place.ensures text)
    (form_first form s.0 s.1 s.2 roles.delay (no_delay (sym (c.in_default.ensures text))))

pub returns-then-delay-gt4-clause-fault : goal.returns-then-delay-gt4-clause-fault
returns-then-delay-gt4-clause-fault c =
    let text = c.args.text.now in
    let form = sexp_form text c.args.form.now in
    let s = c.sexps_are_forms.ensures.stands text c.args.form.now c.requires.of in
    told (IsTableFault roles.delay form) c.at-then-delay-gt4.result c.place-then-delay-gt4.result (place_of form) _ c.at-then-delay-gt4.ensures (c.place-then-delay-gt4.ensures text)
    (delay_first form s.0 s.1 s.2 c.in-Some.delay (sym (c.in-Some.ensures text)) c.if-delay-gt4.true)
