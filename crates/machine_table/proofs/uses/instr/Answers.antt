use Rattle.std.proofs.Common.{refl, sym, ◌∙◌}
use Rattle.forms.proofs.Told.{told}
use Rattle.forms.specs.Forms.{place_of, sexp_form}
use Rattle.machine_table.proofs.InstrForms.{instr_read}
use Rattle.machine_table.proofs.Leaves.{form_first, unknown_instr_first, instr_again_first}
use Rattle.machine_table.specs.Reading.{IsTableFault, names_of_uses}
use Rattle.machine_table.specs.Roles as roles
use Rattle.machine_table.specs.Roles.{no_instr_name}
use Rattle.machine_table.proofs.uses.instr.Goals as goal

pub returns-in_default-clause-fault : goal.returns-in_default-clause-fault
returns-in_default-clause-fault c =
    let text = c.args.text.now in
    let form = sexp_form text c.args.form.now in
    let s = c.sexps_are_forms.ensures.stands text c.args.form.now c.requires.of in
    let before = names_of_uses c.args.uses.now in
    told (IsTableFault (roles.instr before) form) c.at.result c.place.result (place_of form) _ c.at.ensures (c.place.ensures text)
    (form_first form s.0 s.1 s.2 (roles.instr before) (no_instr_name c.in_default.ensures.name))

pub returns-in_default-instr_of-clause-fault : goal.returns-in_default-instr_of-clause-fault
returns-in_default-instr_of-clause-fault c =
    let text = c.args.text.now in
    let form = sexp_form text c.args.form.now in
    let s = c.sexps_are_forms.ensures.stands text c.args.form.now c.requires.of in
    let before = names_of_uses c.args.uses.now in
    let bytes = c.in-Some.bytes.now in
    let named = c.in-Some.ensures.name in
    told (IsTableFault (roles.instr before) form) c.at-in_default-instr_of.result c.place-in_default-instr_of.result (place_of form) _ c.at-in_default-instr_of.ensures (c.place-in_default-instr_of.ensures text)
    (unknown_instr_first form s.0 s.1 s.2 before bytes named (sym c.in_default-instr_of.ensures.exact))

pub returns-then-is_named-clause-fault : goal.returns-then-is_named-clause-fault
returns-then-is_named-clause-fault c =
    let text = c.args.text.now in
    let form = sexp_form text c.args.form.now in
    let s = c.sexps_are_forms.ensures.stands text c.args.form.now c.requires.of in
    let before = names_of_uses c.args.uses.now in
    let bytes = c.in-Some.bytes.now in
    let named = c.in-Some.ensures.name in
    let one = c.in-Some-instr_of.instr in
    let found = sym c.in-Some-instr_of.ensures.exact in
    told (IsTableFault (roles.instr before) form) c.at-then-is_named.result c.place-then-is_named.result (place_of form) _ c.at-then-is_named.ensures (c.place-then-is_named.ensures text)
    (instr_again_first form s.0 s.1 s.2 before bytes named one found (sym c.is_named.ensures ∙ c.if-is_named.true))

pub returns-clause-instr : goal.returns-clause-instr
returns-clause-instr c =
    let text = c.args.text.now in
    let form = sexp_form text c.args.form.now in
    let s = c.sexps_are_forms.ensures.stands text c.args.form.now c.requires.of in
    let before = names_of_uses c.args.uses.now in
    let bytes = c.in-Some.bytes.now in
    let named = c.in-Some.ensures.name in
    let one = c.in-Some-instr_of.instr in
    let found = sym c.in-Some-instr_of.ensures.exact in
    instr_read before form bytes one named ((c.in-Some-instr_of.ensures.found one).0 refl) found (sym c.is_named.ensures ∙ c.if-is_named.false)
