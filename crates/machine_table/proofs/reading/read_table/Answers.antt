use Rattle.std.proofs.Common.{◌≤◌, ◌++◌, ◌∷◌, [], List, length, sym, ◌∙◌, subst, arith}
use Rattle.std.proofs.lemmas.Result.{err_from_is_err_and}
use Rattle.forms.proofs.Told.{told, told_of_part}
use Rattle.forms.specs.Forms.{place_of, parts_of, sexp_form}
use Rattle.machine_table.proofs.Parts.{count_form, nth_part}
use Rattle.machine_table.proofs.TableForms.{table_of_parts, no_machine_first, short_machine_first, slots_fault, cross_fault, clear_3, ops_fault, each_next, joined_next, ops_clear_next, table_is, table_written, machine_clear, no_ops, no_uses}
use Rattle.machine_table.specs.Grammar.{WritesTable}
use Rattle.machine_table.specs.Reading.{AreSlotsRead, AreUses, IsTableFault, slot_names, names_of_uses}
use Rattle.machine_table.specs.Roles as roles
use Rattle.machine_table.specs.Tables.{IsTable}
use Rattle.machine_table.specs.declared.tables.Slot.{Slot}
use Rattle.machine_table.proofs.reading.read_table.Goals as goal

pub returns-then-not-has_keyword-clause-fault : goal.returns-then-not-has_keyword-clause-fault
returns-then-not-has_keyword-clause-fault c =
    let text = c.args.text.now in
    let form = sexp_form text c.args.form.now in
    let s = c.sexps_are_forms.ensures.stands text c.args.form.now c.requires.of in
    told (IsTableFault roles.machine form) c.at.result c.place.result (place_of form) _ c.at.ensures (c.place.ensures text)
    (no_machine_first form s.0 s.1 s.2 (sym c.has_keyword.ensures ∙ c.if-not-has_keyword.true))

pub returns-then-parts-lt3-clause-fault : goal.returns-then-parts-lt3-clause-fault
returns-then-parts-lt3-clause-fault c =
    let text = c.args.text.now in
    let form = sexp_form text c.args.form.now in
    let s = c.sexps_are_forms.ensures.stands text c.args.form.now c.requires.of in
    let parts = c.in-Some.parts.now in
    let is = c.in-Some.ensures.parts text in
    let count = count_form text form (place_of form) parts is in
    told (IsTableFault roles.machine form) c.at-then-parts-lt3.result c.place-then-parts-lt3.result (place_of form) _ c.at-then-parts-lt3.ensures (c.place-then-parts-lt3.ensures text)
    (short_machine_first form s.0 s.1 s.2 (let f = c.if-parts-lt3.true in omega (arith, f, count)))

pub returns-in_err-slots-clause-fault : goal.returns-in_err-slots-clause-fault
returns-in_err-slots-clause-fault c =
    let p = err_from_is_err_and c.from_residual.result c.from_residual.ensures.1 in
    let text = c.args.text.now in
    let form = sexp_form text c.args.form.now in
    let s = c.sexps_are_forms.ensures.stands text c.args.form.now c.requires.of in
    let parts = c.in-Some.parts.now in
    let is = c.in-Some.ensures.parts text in
    let count = count_form text form (place_of form) parts is in
    let keyword = sym c.has_keyword.ensures ∙ c.if-not-has_keyword.false in
    let enough : 3 ≤ length (parts_of form) = (let f = c.if-parts-lt3.false in omega (arith, count, f)) in
    let second = sexp_form text c.index-parts-1.result in
    let g1 = nth_part text form (place_of form) parts 1 c.index-parts-1.result is (let f = c.if-parts-lt3.false in omega (arith, f)) c.index-parts-1.is in
    rw (p.1, p.2)
    (told_of_part (IsTableFault roles.slots second) (IsTableFault roles.machine form) (slots_fault form keyword enough second g1 s.0 s.1 s.2) c.in_err-slots.field-0.0 c.in_err-slots.ensures.fault)

pub returns-in_err-cross-clause-fault : goal.returns-in_err-cross-clause-fault
returns-in_err-cross-clause-fault c =
    let p = err_from_is_err_and c.from_residual-in_err-cross.result c.from_residual-in_err-cross.ensures.1 in
    let text = c.args.text.now in
    let form = sexp_form text c.args.form.now in
    let s = c.sexps_are_forms.ensures.stands text c.args.form.now c.requires.of in
    let parts = c.in-Some.parts.now in
    let is = c.in-Some.ensures.parts text in
    let count = count_form text form (place_of form) parts is in
    let keyword = sym c.has_keyword.ensures ∙ c.if-not-has_keyword.false in
    let enough : 3 ≤ length (parts_of form) = (let f = c.if-parts-lt3.false in omega (arith, count, f)) in
    let second = sexp_form text c.index-parts-1.result in
    let g1 = nth_part text form (place_of form) parts 1 c.index-parts-1.result is (let f = c.if-parts-lt3.false in omega (arith, f)) c.index-parts-1.is in
    let third = sexp_form text c.index-parts-2.result in
    let g2 = nth_part text form (place_of form) parts 2 c.index-parts-2.result is (let f = c.if-parts-lt3.false in omega (arith, f)) c.index-parts-2.is in
    rw (p.1, p.2)
    (told_of_part (IsTableFault roles.cross third) (IsTableFault roles.machine form) (cross_fault form keyword enough second g1 c.in_ok-slots.slots c.in_ok-slots.ensures.slots third g2 s.0 s.1 s.2) c.in_err-cross.field-0.0 c.in_err-cross.ensures.fault)

pub loop-index-init : goal.loop-index-init
loop-index-init c =
    let text = c.args.text.now in
    let form = sexp_form text c.args.form.now in
    let s = c.sexps_are_forms.ensures.stands text c.args.form.now c.requires.of in
    let parts = c.in-Some.parts.now in
    let is = c.in-Some.ensures.parts text in
    let count = count_form text form (place_of form) parts is in
    let keyword = sym c.has_keyword.ensures ∙ c.if-not-has_keyword.false in
    let enough : 3 ≤ length (parts_of form) = (let f = c.if-parts-lt3.false in omega (arith, count, f)) in
    let second = sexp_form text c.index-parts-1.result in
    let g1 = nth_part text form (place_of form) parts 1 c.index-parts-1.result is (let f = c.if-parts-lt3.false in omega (arith, f)) c.index-parts-1.is in
    let third = sexp_form text c.index-parts-2.result in
    let g2 = nth_part text form (place_of form) parts 2 c.index-parts-2.result is (let f = c.if-parts-lt3.false in omega (arith, f)) c.index-parts-2.is in
    let slots = c.as_slice-slots_read.result.now in
    let slots_read = subst (AreSlotsRead second) (sym c.as_slice-slots_read.ensures) c.in_ok-slots.ensures.slots in
    record {
      written = [];
      each = no_ops form keyword enough second g1 slots slots_read third g2;
      is = sym c.new-uses.ensures;
      are = subst (AreUses slots) (sym c.new-uses.ensures) (no_uses slots);
      clear = clear_3 form keyword enough second g1 slots slots_read third g2 c.in_ok-cross.ensures.cross.clear;
    }

pub returns-in_err-ops-clause-fault : goal.returns-in_err-ops-clause-fault
returns-in_err-ops-clause-fault c =
    let p = err_from_is_err_and c.from_residual-in_err-ops.result c.from_residual-in_err-ops.ensures.1 in
    let text = c.args.text.now in
    let form = sexp_form text c.args.form.now in
    let s = c.sexps_are_forms.ensures.stands text c.args.form.now c.requires.of in
    let parts = c.in-Some.parts.now in
    let is = c.in-Some.ensures.parts text in
    let count = count_form text form (place_of form) parts is in
    let keyword = sym c.has_keyword.ensures ∙ c.if-not-has_keyword.false in
    let enough : 3 ≤ length (parts_of form) = (let f = c.if-parts-lt3.false in omega (arith, count, f)) in
    let second = sexp_form text c.index-parts-1.result in
    let g1 = nth_part text form (place_of form) parts 1 c.index-parts-1.result is (let f = c.if-parts-lt3.false in omega (arith, f)) c.index-parts-1.is in
    let third = sexp_form text c.index-parts-2.result in
    let g2 = nth_part text form (place_of form) parts 2 c.index-parts-2.result is (let f = c.if-parts-lt3.false in omega (arith, f)) c.index-parts-2.is in
    let slots = c.as_slice-slots_read.result.now in
    let slots_read = subst (AreSlotsRead second) (sym c.as_slice-slots_read.ensures) c.in_ok-slots.ensures.slots in
    let i = c.loop-index.index in
    let uses = c.loop-index.uses in
    let inv = c.loop-index.invariant in
    let l : 3 ≤ i = c.loop-index.auto.index in
    let part = sexp_form text c.index-parts-index.result in
    let g = nth_part text form (place_of form) parts i c.index-parts-index.result is c.loop-index-test.true c.index-parts-index.is in
    rw (p.1, p.2)
    (told_of_part (IsTableFault (roles.ops (slot_names slots) (names_of_uses uses)) part) (IsTableFault roles.machine form)
    (ops_fault form keyword enough second g1 slots slots_read third g2 i inv.written uses l inv.each inv.is part g s.0 s.1 s.2 inv.clear) c.in_err-ops.field-0.0 c.in_err-ops.ensures.fault)

pub loop-index-preserved : goal.loop-index-preserved
loop-index-preserved c =
    let text = c.args.text.now in
    let form = sexp_form text c.args.form.now in
    let s = c.sexps_are_forms.ensures.stands text c.args.form.now c.requires.of in
    let parts = c.in-Some.parts.now in
    let is = c.in-Some.ensures.parts text in
    let count = count_form text form (place_of form) parts is in
    let keyword = sym c.has_keyword.ensures ∙ c.if-not-has_keyword.false in
    let enough : 3 ≤ length (parts_of form) = (let f = c.if-parts-lt3.false in omega (arith, count, f)) in
    let second = sexp_form text c.index-parts-1.result in
    let g1 = nth_part text form (place_of form) parts 1 c.index-parts-1.result is (let f = c.if-parts-lt3.false in omega (arith, f)) c.index-parts-1.is in
    let third = sexp_form text c.index-parts-2.result in
    let g2 = nth_part text form (place_of form) parts 2 c.index-parts-2.result is (let f = c.if-parts-lt3.false in omega (arith, f)) c.index-parts-2.is in
    let slots = c.as_slice-slots_read.result.now in
    let slots_read = subst (AreSlotsRead second) (sym c.as_slice-slots_read.ensures) c.in_ok-slots.ensures.slots in
    let i = c.loop-index.index in
    let uses = c.loop-index.uses in
    let inv = c.loop-index.invariant in
    let l : 3 ≤ i = c.loop-index.auto.index in
    let part = sexp_form text c.index-parts-index.result in
    let g = nth_part text form (place_of form) parts i c.index-parts-index.result is c.loop-index-test.true c.index-parts-index.is in
    let read = c.in_ok-ops.ensures.ops in
    record {
      written = inv.written ++ read.added ∷ [];
      each = each_next form keyword enough second g1 slots slots_read third g2 i inv.written uses l inv.each inv.is part g c.ops.new.uses read;
      is = joined_next form keyword enough second g1 slots slots_read third g2 i inv.written uses l inv.each inv.is part g c.ops.new.uses read;
      are = read.uses;
      clear = ops_clear_next form keyword enough second g1 slots slots_read third g2 i inv.written uses l inv.each inv.is part g c.ops.new.uses read inv.clear;
    }

pub returns-clause-table : goal.returns-clause-table
returns-clause-table c =
    let text = c.args.text.now in
    let form = sexp_form text c.args.form.now in
    let s = c.sexps_are_forms.ensures.stands text c.args.form.now c.requires.of in
    let parts = c.in-Some.parts.now in
    let is = c.in-Some.ensures.parts text in
    let count = count_form text form (place_of form) parts is in
    let keyword = sym c.has_keyword.ensures ∙ c.if-not-has_keyword.false in
    let enough : 3 ≤ length (parts_of form) = (let f = c.if-parts-lt3.false in omega (arith, count, f)) in
    let second = sexp_form text c.index-parts-1.result in
    let g1 = nth_part text form (place_of form) parts 1 c.index-parts-1.result is (let f = c.if-parts-lt3.false in omega (arith, f)) c.index-parts-1.is in
    let third = sexp_form text c.index-parts-2.result in
    let g2 = nth_part text form (place_of form) parts 2 c.index-parts-2.result is (let f = c.if-parts-lt3.false in omega (arith, f)) c.index-parts-2.is in
    let slots = c.as_slice-slots_read.result.now in
    let slots_read = subst (AreSlotsRead second) (sym c.as_slice-slots_read.ensures) c.in_ok-slots.ensures.slots in
    let i = c.loop-index.index in
    let uses = c.loop-index.uses in
    let inv = c.loop-index.invariant in
    let l : 3 ≤ i = c.loop-index.auto.index in
    let most : length (parts_of form) ≤ i = (let f = c.loop-index-test.false in omega (arith, f, count)) in
    subst (λ (ss : List Slot). WritesTable form (table_of_parts ss c.in_ok-cross.cross c.in_order.result)) c.as_slice-slots_read.ensures
    (table_written form keyword enough second g1 slots slots_read third g2 i inv.written uses l inv.each inv.is c.in_ok-cross.cross c.in_ok-cross.ensures.cross inv.are c.in_order.result c.in_order.ensures.same c.in_order.ensures.order most)

pub returns-clause-is_table : goal.returns-clause-is_table
returns-clause-is_table c =
    let text = c.args.text.now in
    let form = sexp_form text c.args.form.now in
    let s = c.sexps_are_forms.ensures.stands text c.args.form.now c.requires.of in
    let parts = c.in-Some.parts.now in
    let is = c.in-Some.ensures.parts text in
    let count = count_form text form (place_of form) parts is in
    let keyword = sym c.has_keyword.ensures ∙ c.if-not-has_keyword.false in
    let enough : 3 ≤ length (parts_of form) = (let f = c.if-parts-lt3.false in omega (arith, count, f)) in
    let second = sexp_form text c.index-parts-1.result in
    let g1 = nth_part text form (place_of form) parts 1 c.index-parts-1.result is (let f = c.if-parts-lt3.false in omega (arith, f)) c.index-parts-1.is in
    let third = sexp_form text c.index-parts-2.result in
    let g2 = nth_part text form (place_of form) parts 2 c.index-parts-2.result is (let f = c.if-parts-lt3.false in omega (arith, f)) c.index-parts-2.is in
    let slots = c.as_slice-slots_read.result.now in
    let slots_read = subst (AreSlotsRead second) (sym c.as_slice-slots_read.ensures) c.in_ok-slots.ensures.slots in
    let i = c.loop-index.index in
    let uses = c.loop-index.uses in
    let inv = c.loop-index.invariant in
    let l : 3 ≤ i = c.loop-index.auto.index in
    subst (λ (ss : List Slot). IsTable (table_of_parts ss c.in_ok-cross.cross c.in_order.result)) c.as_slice-slots_read.ensures
    (table_is form keyword enough second g1 slots slots_read third g2 i inv.written uses l inv.each inv.is c.in_ok-cross.cross c.in_ok-cross.ensures.cross inv.are c.in_order.result c.in_order.ensures.same c.in_order.ensures.order)

pub returns-clause-clear : goal.returns-clause-clear
returns-clause-clear c =
    let text = c.args.text.now in
    let form = sexp_form text c.args.form.now in
    let s = c.sexps_are_forms.ensures.stands text c.args.form.now c.requires.of in
    let parts = c.in-Some.parts.now in
    let is = c.in-Some.ensures.parts text in
    let count = count_form text form (place_of form) parts is in
    let keyword = sym c.has_keyword.ensures ∙ c.if-not-has_keyword.false in
    let enough : 3 ≤ length (parts_of form) = (let f = c.if-parts-lt3.false in omega (arith, count, f)) in
    let second = sexp_form text c.index-parts-1.result in
    let g1 = nth_part text form (place_of form) parts 1 c.index-parts-1.result is (let f = c.if-parts-lt3.false in omega (arith, f)) c.index-parts-1.is in
    let third = sexp_form text c.index-parts-2.result in
    let g2 = nth_part text form (place_of form) parts 2 c.index-parts-2.result is (let f = c.if-parts-lt3.false in omega (arith, f)) c.index-parts-2.is in
    let slots = c.as_slice-slots_read.result.now in
    let slots_read = subst (AreSlotsRead second) (sym c.as_slice-slots_read.ensures) c.in_ok-slots.ensures.slots in
    let i = c.loop-index.index in
    let uses = c.loop-index.uses in
    let inv = c.loop-index.invariant in
    let l : 3 ≤ i = c.loop-index.auto.index in
    let most : length (parts_of form) ≤ i = (let f = c.loop-index-test.false in omega (arith, f, count)) in
    machine_clear form keyword enough second g1 slots slots_read third g2 i most inv.clear
