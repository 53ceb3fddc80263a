use Rattle.std.proofs.Common.{◌≤◌, length, sym, ◌∙◌, arith}
use Rattle.std.proofs.lemmas.Result.{err_from_is_err_and}
use Rattle.forms.proofs.Told.{told, told_of_part}
use Rattle.forms.specs.Forms.{place_of, parts_of, sexp_form, sexp_forms}
use Rattle.machine_table.proofs.Parts.{back_form, count_form, no_parts, nth_part, part_of}
use Rattle.machine_table.proofs.SlotForms.{short_first, unnamed_first, again_first, cluster_fault, third_first, slot_read}
use Rattle.machine_table.specs.Reading.{IsTableFault, slot_names}
use Rattle.machine_table.specs.Roles as roles
use Rattle.machine_table.proofs.slots.slot.Goals as goal

pub returns-in_default-clause-fault : goal.returns-in_default-clause-fault
returns-in_default-clause-fault c =
    let text = c.args.text.now in
    let form = sexp_form text c.args.form.now in
    let s = c.sexps_are_forms.ensures.stands text c.args.form.now c.requires.of in
    let before = slot_names c.args.slots.now in
    told (IsTableFault (roles.slot before) form) c.at.result c.place.result (place_of form) _ c.at.ensures (c.place.ensures text)
    (short_first before form s.0 s.1 s.2 (let f = no_parts form (c.in_default.ensures.parts text) in omega (arith, f)))

pub returns-then-parts-lt2-clause-fault : goal.returns-then-parts-lt2-clause-fault
returns-then-parts-lt2-clause-fault c =
    let text = c.args.text.now in
    let form = sexp_form text c.args.form.now in
    let s = c.sexps_are_forms.ensures.stands text c.args.form.now c.requires.of in
    let before = slot_names c.args.slots.now in
    let parts = c.in-Some.parts.now in
    let is = c.in-Some.ensures.parts text in
    let count = count_form text form (place_of form) parts is in
    told (IsTableFault (roles.slot before) form) c.at-then-parts-lt2.result c.place-then-parts-lt2.result (place_of form) _ c.at-then-parts-lt2.ensures (c.place-then-parts-lt2.ensures text)
    (short_first before form s.0 s.1 s.2 (let f = c.if-parts-lt2.true in omega (arith, count, f)))

pub returns-in_default-name-clause-fault : goal.returns-in_default-name-clause-fault
returns-in_default-name-clause-fault c =
    let text = c.args.text.now in
    let form = sexp_form text c.args.form.now in
    let s = c.sexps_are_forms.ensures.stands text c.args.form.now c.requires.of in
    let before = slot_names c.args.slots.now in
    let parts = c.in-Some.parts.now in
    let is = c.in-Some.ensures.parts text in
    let count = count_form text form (place_of form) parts is in
    let enough : 2 ≤ length (parts_of form) = (let f = c.if-parts-lt2.false in omega (arith, count, f)) in
    let first = sexp_form text c.index-parts-0.result in
    let g = nth_part text form (place_of form) parts 0 c.index-parts-0.result is (let f = c.if-parts-lt2.false in omega (arith, f)) c.index-parts-0.is in
    let of = c.sexps_are_forms.ensures.stands text c.index-parts-0.result (part_of text parts 0 c.index-parts-0.result (c.in-Some.ensures.of text c.requires.of) (let f = c.if-parts-lt2.false in omega (arith, f)) c.index-parts-0.is) in
    told (IsTableFault (roles.slot before) form) c.at-in_default-name.result c.place-in_default-name.result (place_of first) _ c.at-in_default-name.ensures (c.place-in_default-name.ensures text)
    (unnamed_first before form s.0 s.1 s.2 first g enough of.0 of.1 of.2 c.in_default-name.ensures.name)

pub returns-then-is_slot-clause-fault : goal.returns-then-is_slot-clause-fault
returns-then-is_slot-clause-fault c =
    let text = c.args.text.now in
    let form = sexp_form text c.args.form.now in
    let s = c.sexps_are_forms.ensures.stands text c.args.form.now c.requires.of in
    let before = slot_names c.args.slots.now in
    let parts = c.in-Some.parts.now in
    let is = c.in-Some.ensures.parts text in
    let count = count_form text form (place_of form) parts is in
    let enough : 2 ≤ length (parts_of form) = (let f = c.if-parts-lt2.false in omega (arith, count, f)) in
    let first = sexp_form text c.index-parts-0.result in
    let g = nth_part text form (place_of form) parts 0 c.index-parts-0.result is (let f = c.if-parts-lt2.false in omega (arith, f)) c.index-parts-0.is in
    let bytes = c.in-Some-name.bytes.now in
    let named = c.in-Some-name.ensures.name in
    told (IsTableFault (roles.slot before) form) c.at-then-is_slot.result c.place-then-is_slot.result (place_of form) _ c.at-then-is_slot.ensures (c.place-then-is_slot.ensures text)
    (again_first before form s.0 s.1 s.2 first g enough bytes named (sym c.is_slot.ensures ∙ c.if-is_slot.true))

pub returns-in_err-cluster-clause-fault : goal.returns-in_err-cluster-clause-fault
returns-in_err-cluster-clause-fault c =
    let p = err_from_is_err_and c.from_residual.result c.from_residual.ensures.1 in
    let text = c.args.text.now in
    let form = sexp_form text c.args.form.now in
    let s = c.sexps_are_forms.ensures.stands text c.args.form.now c.requires.of in
    let before = slot_names c.args.slots.now in
    let parts = c.in-Some.parts.now in
    let is = c.in-Some.ensures.parts text in
    let count = count_form text form (place_of form) parts is in
    let enough : 2 ≤ length (parts_of form) = (let f = c.if-parts-lt2.false in omega (arith, count, f)) in
    let first = sexp_form text c.index-parts-0.result in
    let g = nth_part text form (place_of form) parts 0 c.index-parts-0.result is (let f = c.if-parts-lt2.false in omega (arith, f)) c.index-parts-0.is in
    let bytes = c.in-Some-name.bytes.now in
    let named = c.in-Some-name.ensures.name in
    let fresh = sym c.is_slot.ensures ∙ c.if-is_slot.false in
    let second = sexp_form text c.index-parts-1.result in
    let g1 = nth_part text form (place_of form) parts 1 c.index-parts-1.result is (let f = c.if-parts-lt2.false in omega (arith, f)) c.index-parts-1.is in
    rw (p.1, p.2)
    (told_of_part (IsTableFault roles.cluster second) (IsTableFault (roles.slot before) form) (cluster_fault before form s.0 s.1 s.2 first g enough bytes named fresh second g1) c.in_err-cluster.field-0.0 c.in_err-cluster.ensures.fault)

pub returns-then-parts-gt2-clause-fault : goal.returns-then-parts-gt2-clause-fault
returns-then-parts-gt2-clause-fault c =
    let text = c.args.text.now in
    let form = sexp_form text c.args.form.now in
    let s = c.sexps_are_forms.ensures.stands text c.args.form.now c.requires.of in
    let before = slot_names c.args.slots.now in
    let parts = c.in-Some.parts.now in
    let is = c.in-Some.ensures.parts text in
    let count = count_form text form (place_of form) parts is in
    let enough : 2 ≤ length (parts_of form) = (let f = c.if-parts-lt2.false in omega (arith, count, f)) in
    let first = sexp_form text c.index-parts-0.result in
    let g = nth_part text form (place_of form) parts 0 c.index-parts-0.result is (let f = c.if-parts-lt2.false in omega (arith, f)) c.index-parts-0.is in
    let bytes = c.in-Some-name.bytes.now in
    let named = c.in-Some-name.ensures.name in
    let fresh = sym c.is_slot.ensures ∙ c.if-is_slot.false in
    let second = sexp_form text c.index-parts-1.result in
    let g1 = nth_part text form (place_of form) parts 1 c.index-parts-1.result is (let f = c.if-parts-lt2.false in omega (arith, f)) c.index-parts-1.is in
    let of = c.sexps_are_forms.ensures.stands text c.index-parts-2.result (part_of text parts 2 c.index-parts-2.result (c.in-Some.ensures.of text c.requires.of) c.if-parts-gt2.true c.index-parts-2.is) in
    let g2 = nth_part text form (place_of form) parts 2 c.index-parts-2.result is c.if-parts-gt2.true c.index-parts-2.is in
    told (IsTableFault (roles.slot before) form) c.at-then-parts-gt2.result c.place-then-parts-gt2.result (place_of (sexp_form text c.index-parts-2.result)) _ c.at-then-parts-gt2.ensures (c.place-then-parts-gt2.ensures text)
    (third_first before form s.0 s.1 s.2 first g enough bytes named fresh second g1 c.in_ok-cluster.ensures.clear (sexp_form text c.index-parts-2.result) of.0 of.1 of.2 g2)

pub returns-clause-slot : goal.returns-clause-slot
returns-clause-slot c =
    let text = c.args.text.now in
    let form = sexp_form text c.args.form.now in
    let s = c.sexps_are_forms.ensures.stands text c.args.form.now c.requires.of in
    let before = slot_names c.args.slots.now in
    let parts = c.in-Some.parts.now in
    let is = c.in-Some.ensures.parts text in
    let count = count_form text form (place_of form) parts is in
    let enough : 2 ≤ length (parts_of form) = (let f = c.if-parts-lt2.false in omega (arith, count, f)) in
    let first = sexp_form text c.index-parts-0.result in
    let g = nth_part text form (place_of form) parts 0 c.index-parts-0.result is (let f = c.if-parts-lt2.false in omega (arith, f)) c.index-parts-0.is in
    let bytes = c.in-Some-name.bytes.now in
    let named = c.in-Some-name.ensures.name in
    let fresh = sym c.is_slot.ensures ∙ c.if-is_slot.false in
    let second = sexp_form text c.index-parts-1.result in
    let g1 = nth_part text form (place_of form) parts 1 c.index-parts-1.result is (let f = c.if-parts-lt2.false in omega (arith, f)) c.index-parts-1.is in
    slot_read before form s.0 s.1 s.2 first g enough bytes named fresh second g1 c.in_ok-cluster.ensures.clear (place_of form) c.in_ok-name.name c.in_ok-cluster.cluster (back_form form (place_of form) (sexp_forms text parts) is)
    (let f = c.if-parts-gt2.false in omega (arith, count, f)) c.in_ok-name.ensures c.in_ok-cluster.ensures.cluster c.in_ok-cluster.ensures.below
