use Rattle.std.proofs.Common.{◌+◌, ◌≤◌, [], length, take, sym, subst, arith}
use Rattle.std.proofs.lemmas.Result.{err_from_is_err_and}
use Rattle.forms.proofs.Told.{told, told_of_part}
use Rattle.forms.specs.Forms.{place_of, parts_of, sexp_form, sexp_forms}
use Rattle.machine_table.proofs.Leaves.{form_first}
use Rattle.machine_table.proofs.Parts.{back_form, clear_0, count_form, list_form, nth_part}
use Rattle.machine_table.proofs.SlotLists.{empty_first, used_fault, used_next, used_clear_next, numbers_next, used_whole, is_zero, not_zero}
use Rattle.machine_table.proofs.SlotNumbers.{no_numbers}
use Rattle.machine_table.specs.Grammar.{Each, none, IsSlotNamed}
use Rattle.machine_table.specs.Reading.{AreSlotNumbers, IsTableFault, IsUsedRead, slot_names, slot_names_used}
use Rattle.machine_table.specs.Roles as roles
use Rattle.machine_table.specs.Roles.{no_list}
use Rattle.text_core.specs.Faults.{IsFaultBy, IsFirst}
use Rattle.machine_table.proofs.uses.used_slots.Goals as goal

pub returns-in_default-clause-fault : goal.returns-in_default-clause-fault
returns-in_default-clause-fault c =
    let text = c.args.text.now in
    let form = sexp_form text c.args.form.now in
    let s = c.sexps_are_forms.ensures.stands text c.args.form.now c.requires.of in
    let slots = c.args.slots.now in
    told (IsTableFault (roles.used_slots (slot_names slots)) form) c.at.result c.place.result (place_of form) _ c.at.ensures (c.place.ensures text)
    (form_first form s.0 s.1 s.2 (roles.used_slots (slot_names slots)) (no_list (c.in_default.ensures.parts text)))

pub returns-then-is_empty-clause-fault : goal.returns-then-is_empty-clause-fault
returns-then-is_empty-clause-fault c =
    let text = c.args.text.now in
    let form = sexp_form text c.args.form.now in
    let s = c.sexps_are_forms.ensures.stands text c.args.form.now c.requires.of in
    let slots = c.args.slots.now in
    let parts = c.in-Some.parts.now in
    let is = c.in-Some.ensures.parts text in
    let count = count_form text form (place_of form) parts is in
    let a_list = list_form form (place_of form) (sexp_forms text parts) is in
    told (IsTableFault (roles.used_slots (slot_names slots)) form) c.at-then-is_empty.result c.place-then-is_empty.result (place_of form) _ c.at-then-is_empty.ensures (c.place-then-is_empty.ensures text)
    (empty_first slots form s.0 s.1 s.2 a_list (let f = is_zero (length parts) c.if-is_empty.ensures in omega (arith, f, count)))

pub loop-index-init : goal.loop-index-init
loop-index-init c =
    let text = c.args.text.now in
    let form = sexp_form text c.args.form.now in
    let s = c.sexps_are_forms.ensures.stands text c.args.form.now c.requires.of in
    let slots = c.args.slots.now in
    record {
      named = subst (Each (IsSlotNamed slots) []) (sym c.new-used.ensures) none;
      numbers = subst (AreSlotNumbers slots) (sym c.new-used.ensures) (no_numbers slots);
      clear = clear_0 (roles.used_slots (slot_names slots)) form;
    }

pub returns-in_err-slot-clause-fault : goal.returns-in_err-slot-clause-fault
returns-in_err-slot-clause-fault c =
    let p = err_from_is_err_and c.from_residual.result c.from_residual.ensures.1 in
    let text = c.args.text.now in
    let form = sexp_form text c.args.form.now in
    let s = c.sexps_are_forms.ensures.stands text c.args.form.now c.requires.of in
    let slots = c.args.slots.now in
    let parts = c.in-Some.parts.now in
    let is = c.in-Some.ensures.parts text in
    let count = count_form text form (place_of form) parts is in
    let a_list = list_form form (place_of form) (sexp_forms text parts) is in
    let some : 1 ≤ length (parts_of form) = (let f = not_zero (length parts) c.if-is_empty.ensures in omega (arith, f, count)) in
    let i = c.loop-index.index in
    let used = c.loop-index.used in
    let inv = c.loop-index.invariant in
    let part = sexp_form text c.index-parts-index.result in
    let g = nth_part text form (place_of form) parts i c.index-parts-index.result is c.loop-index-test.true c.index-parts-index.is in
    let first = subst (λ u. IsFaultBy (IsFirst (IsTableFault (roles.used_slot (slot_names slots) (slot_names_used slots u)) part)) c.in_err-slot.field-0.0) c.as_slice.ensures c.in_err-slot.ensures.fault in
    rw (p.1, p.2)
    (told_of_part (IsTableFault (roles.used_slot (slot_names slots) (slot_names_used slots used)) part) (IsTableFault (roles.used_slots (slot_names slots)) form)
    (used_fault slots form i used inv.named s.0 s.1 s.2 a_list some part g inv.clear) c.in_err-slot.field-0.0 first)

pub loop-index-preserved : goal.loop-index-preserved
loop-index-preserved c =
    let text = c.args.text.now in
    let form = sexp_form text c.args.form.now in
    let s = c.sexps_are_forms.ensures.stands text c.args.form.now c.requires.of in
    let slots = c.args.slots.now in
    let parts = c.in-Some.parts.now in
    let is = c.in-Some.ensures.parts text in
    let count = count_form text form (place_of form) parts is in
    let i = c.loop-index.index in
    let used = c.loop-index.used in
    let inv = c.loop-index.invariant in
    let part = sexp_form text c.index-parts-index.result in
    let g = nth_part text form (place_of form) parts i c.index-parts-index.result is c.loop-index-test.true c.index-parts-index.is in
    let at = c.in_ok-slot.slot in
    let read = subst (λ u. IsUsedRead slots u part at) c.as_slice.ensures c.in_ok-slot.ensures.used in
    let pushed = sym c.in_ok-push.ensures.ok in
    record {
      named = subst (Each (IsSlotNamed slots) (take (i + 1) (parts_of form))) pushed (used_next slots form i used inv.named part at g read);
      numbers = subst (AreSlotNumbers slots) pushed (numbers_next slots form i used inv.named part at g read inv.numbers);
      clear = used_clear_next slots form i used inv.named part at g read inv.clear;
    }

pub returns-clause-used : goal.returns-clause-used
returns-clause-used c =
    let text = c.args.text.now in
    let form = sexp_form text c.args.form.now in
    let s = c.sexps_are_forms.ensures.stands text c.args.form.now c.requires.of in
    let slots = c.args.slots.now in
    let parts = c.in-Some.parts.now in
    let is = c.in-Some.ensures.parts text in
    let count = count_form text form (place_of form) parts is in
    let some : 1 ≤ length (parts_of form) = (let f = not_zero (length parts) c.if-is_empty.ensures in omega (arith, f, count)) in
    let i = c.loop-index.index in
    let used = c.loop-index.used in
    let inv = c.loop-index.invariant in
    used_whole slots form i used (back_form form (place_of form) (sexp_forms text parts) is) some (let f = c.loop-index-test.false in omega (arith, f, count)) inv.named inv.numbers inv.clear
