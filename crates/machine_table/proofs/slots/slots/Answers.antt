use Rattle.std.proofs.Common.{◌+◌, ◌≤◌, List, length, refl, sym, ap, ◌∙◌, subst, arith}
use Rattle.std.proofs.lemmas.Result.{err_from_is_err_and}
use Rattle.forms.proofs.Told.{told, told_of_part}
use Rattle.forms.specs.Forms.{place_of, parts_of, sexp_form}
use Rattle.machine_table.proofs.Parts.{between, clear_0, clear_skip, count_form, nth_part}
use Rattle.machine_table.proofs.SlotLists.{no_slots_first, one_first, ninth_fault, slot_fault, written_next, slots_clear_next, slots_next, slots_whole, no_between, no_slots, pushed_count, keyword_some}
use Rattle.machine_table.specs.Grammar.{Each, WritesSlot}
use Rattle.machine_table.specs.Reading.{AreSlots, IsTableFault, IsSlotRead, slot_names}
use Rattle.machine_table.specs.Roles as roles
use Rattle.machine_table.specs.declared.tables.Slot.{Slot}
use Rattle.text_core.specs.Faults.{IsFaultBy, IsFirst}
use Rattle.machine_table.proofs.slots.slots.Goals as goal

pub returns-then-not-has_keyword-clause-fault : goal.returns-then-not-has_keyword-clause-fault
returns-then-not-has_keyword-clause-fault c =
    let text = c.args.text.now in
    let form = sexp_form text c.args.form.now in
    let s = c.sexps_are_forms.ensures.stands text c.args.form.now c.requires.of in
    told (IsTableFault roles.slots form) c.at.result c.place.result (place_of form) _ c.at.ensures (c.place.ensures text)
    (no_slots_first form s.0 s.1 s.2 (sym c.has_keyword.ensures ∙ c.if-not-has_keyword.true))

pub returns-then-parts-lt2-clause-fault : goal.returns-then-parts-lt2-clause-fault
returns-then-parts-lt2-clause-fault c =
    let text = c.args.text.now in
    let form = sexp_form text c.args.form.now in
    let s = c.sexps_are_forms.ensures.stands text c.args.form.now c.requires.of in
    let parts = c.in-Some.parts.now in
    let is = c.in-Some.ensures.parts text in
    let count = count_form text form (place_of form) parts is in
    let keyword = sym c.has_keyword.ensures ∙ c.if-not-has_keyword.false in
    told (IsTableFault roles.slots form) c.at-then-parts-lt2.result c.place-then-parts-lt2.result (place_of form) _ c.at-then-parts-lt2.ensures (c.place-then-parts-lt2.ensures text)
    (one_first form keyword s.0 s.1 s.2 (let f = c.if-parts-lt2.true in let k = keyword_some _ form keyword in omega (arith, f, k, count)))

pub loop-index-init : goal.loop-index-init
loop-index-init c =
    let text = c.args.text.now in
    let form = sexp_form text c.args.form.now in
    let s = c.sexps_are_forms.ensures.stands text c.args.form.now c.requires.of in
    let parts = c.in-Some.parts.now in
    let is = c.in-Some.ensures.parts text in
    let count = count_form text form (place_of form) parts is in
    let keyword = sym c.has_keyword.ensures ∙ c.if-not-has_keyword.false in
    let empty = sym c.new-slots.ensures in
    record {
      written = subst (λ ss. Each WritesSlot (between 1 1 (parts_of form)) ss) empty (no_between (parts_of form));
      count = ap (λ (ss : List Slot). length ss + 1) c.new-slots.ensures;
      differ = subst AreSlots empty no_slots;
      clear = clear_skip roles.slots form 0 refl (clear_0 roles.slots form);
    }

pub returns-then-index-gt8-clause-fault : goal.returns-then-index-gt8-clause-fault
returns-then-index-gt8-clause-fault c =
    let text = c.args.text.now in
    let form = sexp_form text c.args.form.now in
    let s = c.sexps_are_forms.ensures.stands text c.args.form.now c.requires.of in
    let parts = c.in-Some.parts.now in
    let is = c.in-Some.ensures.parts text in
    let count = count_form text form (place_of form) parts is in
    let keyword = sym c.has_keyword.ensures ∙ c.if-not-has_keyword.false in
    let some : 2 ≤ length (parts_of form) = (let f = c.if-parts-lt2.false in omega (arith, f, count)) in
    let i = c.loop-index.index in
    let slots = c.loop-index.slots in
    let inv = c.loop-index.invariant in
    let part = sexp_form text c.index-parts-index.result in
    let g = nth_part text form (place_of form) parts i c.index-parts-index.result is c.loop-index-test.true c.index-parts-index.is in
    told_of_part (IsTableFault roles.ninth_slot part) (IsTableFault roles.slots form) (ninth_fault form keyword some s.0 s.1 s.2 i part g inv.clear c.if-index-gt8.true) c.ninth_slot.result c.ninth_slot.ensures

pub returns-in_err-slot-clause-fault : goal.returns-in_err-slot-clause-fault
returns-in_err-slot-clause-fault c =
    let p = err_from_is_err_and c.from_residual.result c.from_residual.ensures.1 in
    let text = c.args.text.now in
    let form = sexp_form text c.args.form.now in
    let s = c.sexps_are_forms.ensures.stands text c.args.form.now c.requires.of in
    let parts = c.in-Some.parts.now in
    let is = c.in-Some.ensures.parts text in
    let count = count_form text form (place_of form) parts is in
    let keyword = sym c.has_keyword.ensures ∙ c.if-not-has_keyword.false in
    let some : 2 ≤ length (parts_of form) = (let f = c.if-parts-lt2.false in omega (arith, f, count)) in
    let i = c.loop-index.index in
    let slots = c.loop-index.slots in
    let inv = c.loop-index.invariant in
    let part = sexp_form text c.index-parts-index.result in
    let g = nth_part text form (place_of form) parts i c.index-parts-index.result is c.loop-index-test.true c.index-parts-index.is in
    let l : 1 ≤ i = c.loop-index.auto.index in
    let m : i ≤ 8 = (let f = c.if-index-gt8.false in omega (arith, f)) in
    let first = subst (λ (ss : List Slot). IsFaultBy (IsFirst (IsTableFault (roles.slot (slot_names ss)) part)) c.in_err-slot.field-0.0) c.as_slice.ensures c.in_err-slot.ensures.fault in
    rw (p.1, p.2)
    (told_of_part (IsTableFault (roles.slot (slot_names slots)) part) (IsTableFault roles.slots form) (slot_fault form keyword some s.0 s.1 s.2 i part g inv.clear slots l m inv.written) c.in_err-slot.field-0.0 first)

pub loop-index-preserved : goal.loop-index-preserved
loop-index-preserved c =
    let text = c.args.text.now in
    let form = sexp_form text c.args.form.now in
    let s = c.sexps_are_forms.ensures.stands text c.args.form.now c.requires.of in
    let parts = c.in-Some.parts.now in
    let is = c.in-Some.ensures.parts text in
    let count = count_form text form (place_of form) parts is in
    let keyword = sym c.has_keyword.ensures ∙ c.if-not-has_keyword.false in
    let some : 2 ≤ length (parts_of form) = (let f = c.if-parts-lt2.false in omega (arith, f, count)) in
    let i = c.loop-index.index in
    let slots = c.loop-index.slots in
    let inv = c.loop-index.invariant in
    let part = sexp_form text c.index-parts-index.result in
    let g = nth_part text form (place_of form) parts i c.index-parts-index.result is c.loop-index-test.true c.index-parts-index.is in
    let l : 1 ≤ i = c.loop-index.auto.index in
    let m : i ≤ 8 = (let f = c.if-index-gt8.false in omega (arith, f)) in
    let slot = c.in_ok-slot.slot in
    let read = subst (λ (ss : List Slot). IsSlotRead (slot_names ss) part slot) c.as_slice.ensures c.in_ok-slot.ensures.slot in
    let pushed = c.in_ok-push.ensures.ok in
    record {
      written = subst (λ (ss : List Slot). Each WritesSlot (between 1 (i + 1) (parts_of form)) ss) (sym pushed) (written_next form keyword some i slots l m inv.written part slot g read);
      count = ap (λ (ss : List Slot). length ss + 1) pushed ∙ pushed_count slots slot i inv.count;
      differ = subst AreSlots (sym pushed) (slots_next form keyword some i slots l m inv.written part slot g read inv.differ (let k = inv.count in omega (arith, k, m)));
      clear = slots_clear_next form keyword some i slots l m inv.written part slot g read inv.clear;
    }

pub returns-clause-slots : goal.returns-clause-slots
returns-clause-slots c =
    let text = c.args.text.now in
    let form = sexp_form text c.args.form.now in
    let s = c.sexps_are_forms.ensures.stands text c.args.form.now c.requires.of in
    let parts = c.in-Some.parts.now in
    let is = c.in-Some.ensures.parts text in
    let count = count_form text form (place_of form) parts is in
    let keyword = sym c.has_keyword.ensures ∙ c.if-not-has_keyword.false in
    let some : 2 ≤ length (parts_of form) = (let f = c.if-parts-lt2.false in omega (arith, f, count)) in
    let i = c.loop-index.index in
    let slots = c.loop-index.slots in
    let inv = c.loop-index.invariant in
    let most : length (parts_of form) ≤ i = (let f = c.loop-index-test.false in omega (arith, f, count)) in
    slots_whole form keyword some i slots most inv.count (omega (arith, most, some)) inv.written inv.differ inv.clear
