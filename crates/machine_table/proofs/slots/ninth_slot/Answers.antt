use Rattle.forms.proofs.Told.{told}
use Rattle.forms.specs.Forms.{place_of, sexp_form, sexp_forms}
use Rattle.machine_table.proofs.Leaves.{form_first, ninth_first}
use Rattle.machine_table.proofs.Parts.{list_form}
use Rattle.machine_table.specs.Reading.{IsTableFault}
use Rattle.machine_table.specs.Roles as roles
use Rattle.machine_table.specs.Roles.{ninth_atom}
use Rattle.machine_table.proofs.slots.ninth_slot.Goals as goal

pub returns-in-Some : goal.returns-in-Some
returns-in-Some c =
    let text = c.args.text.now in
    let form = sexp_form text c.args.form.now in
    let s = c.sexps_are_forms.ensures.stands text c.args.form.now c.requires.of in
    told (IsTableFault roles.ninth_slot form) c.at.result c.place.result (place_of form) _ c.at.ensures (c.place.ensures text)
    (ninth_first form s.0 s.1 s.2 (list_form form (place_of form) (sexp_forms text c.in-Some._parts.now) (c.in-Some.ensures.parts text)))

pub returns-in-None : goal.returns-in-None
returns-in-None c =
    let text = c.args.text.now in
    let form = sexp_form text c.args.form.now in
    let s = c.sexps_are_forms.ensures.stands text c.args.form.now c.requires.of in
    told (IsTableFault roles.ninth_slot form) c.at-in-None.result c.place-in-None.result (place_of form) _ c.at-in-None.ensures (c.place-in-None.ensures text)
    (form_first form s.0 s.1 s.2 roles.ninth_slot (ninth_atom (c.in-None.ensures.parts text)))
