use Rattle.std.proofs.Common.{sym, ◌∙◌}
use Rattle.forms.proofs.Told.{told}
use Rattle.forms.specs.Forms.{place_of, sexp_form}
use Rattle.machine_table.proofs.Leaves.{form_first, unknown_slot_first, used_again_first}
use Rattle.machine_table.proofs.SlotNumbers.{used_is, used_read}
use Rattle.machine_table.specs.Reading.{IsTableFault, slot_names, slot_names_used}
use Rattle.machine_table.specs.Roles as roles
use Rattle.machine_table.specs.Roles.{no_used_name}
use Rattle.machine_table.proofs.uses.used_slot.Goals as goal

pub returns-in_default-clause-fault : goal.returns-in_default-clause-fault
returns-in_default-clause-fault c =
    let text = c.args.text.now in
    let form = sexp_form text c.args.form.now in
    let s = c.sexps_are_forms.ensures.stands text c.args.form.now c.requires.of in
    let slots = c.args.slots.now in
    let used = c.args.used.now in
    let before = slot_names_used slots used in
    told (IsTableFault (roles.used_slot (slot_names slots) before) form) c.at.result c.place.result (place_of form) _ c.at.ensures (c.place.ensures text)
    (form_first form s.0 s.1 s.2 (roles.used_slot (slot_names slots) before) (no_used_name c.in_default.ensures.name))

pub returns-in_default-slot_of-clause-fault : goal.returns-in_default-slot_of-clause-fault
returns-in_default-slot_of-clause-fault c =
    let text = c.args.text.now in
    let form = sexp_form text c.args.form.now in
    let s = c.sexps_are_forms.ensures.stands text c.args.form.now c.requires.of in
    let slots = c.args.slots.now in
    let used = c.args.used.now in
    let before = slot_names_used slots used in
    let bytes = c.in-Some.bytes.now in
    let named = c.in-Some.ensures.name in
    told (IsTableFault (roles.used_slot (slot_names slots) before) form) c.at-in_default-slot_of.result c.place-in_default-slot_of.result (place_of form) _ c.at-in_default-slot_of.ensures (c.place-in_default-slot_of.ensures text)
    (unknown_slot_first form s.0 s.1 s.2 (slot_names slots) before bytes named c.in_default-slot_of.ensures)

pub returns-then-contains-clause-fault : goal.returns-then-contains-clause-fault
returns-then-contains-clause-fault c =
    let text = c.args.text.now in
    let form = sexp_form text c.args.form.now in
    let s = c.sexps_are_forms.ensures.stands text c.args.form.now c.requires.of in
    let slots = c.args.slots.now in
    let used = c.args.used.now in
    let before = slot_names_used slots used in
    let bytes = c.in-Some.bytes.now in
    let named = c.in-Some.ensures.name in
    let at = c.in-Some-slot_of.slot in
    told (IsTableFault (roles.used_slot (slot_names slots) before) form) c.at-then-contains.result c.place-then-contains.result (place_of form) _ c.at-then-contains.ensures (c.place-then-contains.ensures text)
    (used_again_first form s.0 s.1 s.2 (slot_names slots) before bytes named (used_is slots c.requires.slots used c.requires.used form bytes named at c.in-Some-slot_of.ensures ∙ sym c.if-contains.ensures.value))

pub returns-clause-used : goal.returns-clause-used
returns-clause-used c =
    let text = c.args.text.now in
    let form = sexp_form text c.args.form.now in
    let s = c.sexps_are_forms.ensures.stands text c.args.form.now c.requires.of in
    let slots = c.args.slots.now in
    let used = c.args.used.now in
    let before = slot_names_used slots used in
    let bytes = c.in-Some.bytes.now in
    let named = c.in-Some.ensures.name in
    let at = c.in-Some-slot_of.slot in
    used_read slots c.requires.slots used c.requires.used form bytes named at c.in-Some-slot_of.ensures (sym c.if-contains.ensures.value)
