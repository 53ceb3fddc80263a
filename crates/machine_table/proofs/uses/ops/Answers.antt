use Rattle.std.proofs.Common.{◌≡◌, ◌≤◌, ◌++◌, ◌∷◌, [], List, ℕ, length, sym, ap, ◌∙◌, subst, arith}
use Rattle.std.proofs.lemmas.Result.{err_from_is_err_and}
use Rattle.std.proofs.lemmas.List.{append-nil}
use Rattle.forms.proofs.Told.{told, told_of_part}
use Rattle.forms.specs.Forms.{place_of, parts_of, sexp_form}
use Rattle.machine_table.proofs.Parts.{count_form, nth_part}
use Rattle.machine_table.proofs.UseLists.{use_of_parts, no_ops_first, short_ops_first, latency_fault, slots_fault, clear_3, instr_fault, added_is, uses_next, uses_clear_next, are_next, ops_whole, no_uses}
use Rattle.machine_table.specs.Reading.{AreUsedRead, AreUses, IsTableFault, IsInstrRead, slot_names, names_of_uses}
use Rattle.machine_table.specs.Roles as roles
use Rattle.machine_table.specs.declared.tables.Use.{Use}
use Rattle.text_core.specs.Faults.{IsFaultBy, IsFirst}
use Rattle.machine_table.proofs.uses.ops.Goals as goal

pub returns-then-not-has_keyword-clause-fault : goal.returns-then-not-has_keyword-clause-fault
returns-then-not-has_keyword-clause-fault c =
    let text = c.args.text.now in
    let form = sexp_form text c.args.form.now in
    let s = c.sexps_are_forms.ensures.stands text c.args.form.now c.requires.of in
    let slots = c.args.slots.now in
    let before = c.args.uses.now in
    told (IsTableFault (roles.ops (slot_names slots) (names_of_uses before)) form) c.at.result c.place.result (place_of form) _ c.at.ensures (c.place.ensures text)
    (no_ops_first slots before form s.0 s.1 s.2 (sym c.has_keyword.ensures ∙ c.if-not-has_keyword.true))

pub returns-then-parts-lt4-clause-fault : goal.returns-then-parts-lt4-clause-fault
returns-then-parts-lt4-clause-fault c =
    let text = c.args.text.now in
    let form = sexp_form text c.args.form.now in
    let s = c.sexps_are_forms.ensures.stands text c.args.form.now c.requires.of in
    let slots = c.args.slots.now in
    let before = c.args.uses.now in
    let parts = c.in-Some.parts.now in
    let is = c.in-Some.ensures.parts text in
    let count = count_form text form (place_of form) parts is in
    told (IsTableFault (roles.ops (slot_names slots) (names_of_uses before)) form) c.at-then-parts-lt4.result c.place-then-parts-lt4.result (place_of form) _ c.at-then-parts-lt4.ensures (c.place-then-parts-lt4.ensures text)
    (short_ops_first slots before form s.0 s.1 s.2 (let f = c.if-parts-lt4.true in omega (arith, f, count)))

pub returns-in_err-latency-clause-fault : goal.returns-in_err-latency-clause-fault
returns-in_err-latency-clause-fault c =
    let p = err_from_is_err_and c.from_residual.result c.from_residual.ensures.1 in
    let text = c.args.text.now in
    let form = sexp_form text c.args.form.now in
    let s = c.sexps_are_forms.ensures.stands text c.args.form.now c.requires.of in
    let slots = c.args.slots.now in
    let before = c.args.uses.now in
    let parts = c.in-Some.parts.now in
    let is = c.in-Some.ensures.parts text in
    let count = count_form text form (place_of form) parts is in
    let keyword = sym c.has_keyword.ensures ∙ c.if-not-has_keyword.false in
    let enough : 4 ≤ length (parts_of form) = (let f = c.if-parts-lt4.false in omega (arith, count, f)) in
    let second = sexp_form text c.index-parts-1.result in
    let g1 = nth_part text form (place_of form) parts 1 c.index-parts-1.result is (let f = c.if-parts-lt4.false in omega (arith, f)) c.index-parts-1.is in
    rw (p.1, p.2)
    (told_of_part (IsTableFault roles.latency second) (IsTableFault (roles.ops (slot_names slots) (names_of_uses before)) form) (latency_fault slots before form keyword enough second g1 s.0 s.1 s.2) c.in_err-latency.field-0.0 c.in_err-latency.ensures.fault)

pub returns-in_err-used-clause-fault : goal.returns-in_err-used-clause-fault
returns-in_err-used-clause-fault c =
    let p = err_from_is_err_and c.from_residual-in_err-used.result c.from_residual-in_err-used.ensures.1 in
    let text = c.args.text.now in
    let form = sexp_form text c.args.form.now in
    let s = c.sexps_are_forms.ensures.stands text c.args.form.now c.requires.of in
    let slots = c.args.slots.now in
    let before = c.args.uses.now in
    let parts = c.in-Some.parts.now in
    let is = c.in-Some.ensures.parts text in
    let count = count_form text form (place_of form) parts is in
    let keyword = sym c.has_keyword.ensures ∙ c.if-not-has_keyword.false in
    let enough : 4 ≤ length (parts_of form) = (let f = c.if-parts-lt4.false in omega (arith, count, f)) in
    let second = sexp_form text c.index-parts-1.result in
    let g1 = nth_part text form (place_of form) parts 1 c.index-parts-1.result is (let f = c.if-parts-lt4.false in omega (arith, f)) c.index-parts-1.is in
    let third = sexp_form text c.index-parts-2.result in
    let g2 = nth_part text form (place_of form) parts 2 c.index-parts-2.result is (let f = c.if-parts-lt4.false in omega (arith, f)) c.index-parts-2.is in
    rw (p.1, p.2)
    (told_of_part (IsTableFault (roles.used_slots (slot_names slots)) third) (IsTableFault (roles.ops (slot_names slots) (names_of_uses before)) form)
    (slots_fault slots before form keyword enough second g1 c.in_ok-latency.ensures.clear third g2 s.0 s.1 s.2) c.in_err-used.field-0.0 c.in_err-used.ensures.fault)

pub loop-index-init : goal.loop-index-init
loop-index-init c =
    let text = c.args.text.now in
    let form = sexp_form text c.args.form.now in
    let s = c.sexps_are_forms.ensures.stands text c.args.form.now c.requires.of in
    let slots = c.args.slots.now in
    let before = c.args.uses.now in
    let parts = c.in-Some.parts.now in
    let is = c.in-Some.ensures.parts text in
    let count = count_form text form (place_of form) parts is in
    let keyword = sym c.has_keyword.ensures ∙ c.if-not-has_keyword.false in
    let enough : 4 ≤ length (parts_of form) = (let f = c.if-parts-lt4.false in omega (arith, count, f)) in
    let second = sexp_form text c.index-parts-1.result in
    let g1 = nth_part text form (place_of form) parts 1 c.index-parts-1.result is (let f = c.if-parts-lt4.false in omega (arith, f)) c.index-parts-1.is in
    let third = sexp_form text c.index-parts-2.result in
    let g2 = nth_part text form (place_of form) parts 2 c.index-parts-2.result is (let f = c.if-parts-lt4.false in omega (arith, f)) c.index-parts-2.is in
    record {
      added = [];
      is = sym (append-nil before);
      written = no_uses slots before form c.in_ok-latency.latency c.as_slice-numbers.result.now (omega (arith, enough));
      are = c.requires.uses;
      clear = clear_3 slots before form keyword enough second g1 c.in_ok-latency.ensures.clear third g2 c.in_ok-used.ensures.used.clear;
    }

pub returns-in_err-instr-clause-fault : goal.returns-in_err-instr-clause-fault
returns-in_err-instr-clause-fault c =
    let p = err_from_is_err_and c.from_residual-in_err-instr.result c.from_residual-in_err-instr.ensures.1 in
    let text = c.args.text.now in
    let form = sexp_form text c.args.form.now in
    let s = c.sexps_are_forms.ensures.stands text c.args.form.now c.requires.of in
    let slots = c.args.slots.now in
    let before = c.args.uses.now in
    let parts = c.in-Some.parts.now in
    let is = c.in-Some.ensures.parts text in
    let count = count_form text form (place_of form) parts is in
    let keyword = sym c.has_keyword.ensures ∙ c.if-not-has_keyword.false in
    let enough : 4 ≤ length (parts_of form) = (let f = c.if-parts-lt4.false in omega (arith, count, f)) in
    let second = sexp_form text c.index-parts-1.result in
    let g1 = nth_part text form (place_of form) parts 1 c.index-parts-1.result is (let f = c.if-parts-lt4.false in omega (arith, f)) c.index-parts-1.is in
    let third = sexp_form text c.index-parts-2.result in
    let g2 = nth_part text form (place_of form) parts 2 c.index-parts-2.result is (let f = c.if-parts-lt4.false in omega (arith, f)) c.index-parts-2.is in
    let latency = c.in_ok-latency.latency in
    let numbers = c.as_slice-numbers.result.now in
    let used_read = subst (AreUsedRead slots third) (sym c.as_slice-numbers.ensures) c.in_ok-used.ensures.used in
    let i = c.loop-index.index in
    let uses = c.loop-index.uses in
    let inv = c.loop-index.invariant in
    let l : 3 ≤ i = c.loop-index.auto.index in
    let part = sexp_form text c.index-parts-index.result in
    let g = nth_part text form (place_of form) parts i c.index-parts-index.result is c.loop-index-test.true c.index-parts-index.is in
    let first = subst (λ (us : List Use). IsFaultBy (IsFirst (IsTableFault (roles.instr (names_of_uses us)) part)) c.in_err-instr.field-0.0) c.as_slice.ensures c.in_err-instr.ensures.fault in
    rw (p.1, p.2)
    (told_of_part (IsTableFault (roles.instr (names_of_uses uses)) part) (IsTableFault (roles.ops (slot_names slots) (names_of_uses before)) form)
    (instr_fault slots before form keyword enough second g1 latency numbers i uses inv.added l inv.is inv.written s.0 s.1 s.2 part g inv.clear) c.in_err-instr.field-0.0 first)

pub loop-index-preserved : goal.loop-index-preserved
loop-index-preserved c =
    let text = c.args.text.now in
    let form = sexp_form text c.args.form.now in
    let s = c.sexps_are_forms.ensures.stands text c.args.form.now c.requires.of in
    let slots = c.args.slots.now in
    let before = c.args.uses.now in
    let parts = c.in-Some.parts.now in
    let is = c.in-Some.ensures.parts text in
    let count = count_form text form (place_of form) parts is in
    let keyword = sym c.has_keyword.ensures ∙ c.if-not-has_keyword.false in
    let enough : 4 ≤ length (parts_of form) = (let f = c.if-parts-lt4.false in omega (arith, count, f)) in
    let second = sexp_form text c.index-parts-1.result in
    let g1 = nth_part text form (place_of form) parts 1 c.index-parts-1.result is (let f = c.if-parts-lt4.false in omega (arith, f)) c.index-parts-1.is in
    let third = sexp_form text c.index-parts-2.result in
    let g2 = nth_part text form (place_of form) parts 2 c.index-parts-2.result is (let f = c.if-parts-lt4.false in omega (arith, f)) c.index-parts-2.is in
    let latency = c.in_ok-latency.latency in
    let numbers = c.as_slice-numbers.result.now in
    let used_read = subst (AreUsedRead slots third) (sym c.as_slice-numbers.ensures) c.in_ok-used.ensures.used in
    let i = c.loop-index.index in
    let uses = c.loop-index.uses in
    let inv = c.loop-index.invariant in
    let l : 3 ≤ i = c.loop-index.auto.index in
    let part = sexp_form text c.index-parts-index.result in
    let g = nth_part text form (place_of form) parts i c.index-parts-index.result is c.loop-index-test.true c.index-parts-index.is in
    let one = c.in_ok-instr.instr in
    let read = subst (λ (us : List Use). IsInstrRead (names_of_uses us) part one) c.as_slice.ensures c.in_ok-instr.ensures.instr in
    let copied = ap (λ (n : List ℕ). uses ++ use_of_parts one latency n ∷ []) c.in_ok-from_slice.ensures in
    let pushed : c.push.new.self ≡ uses ++ use_of_parts one latency numbers ∷ [] = c.in_ok-push.ensures.ok ∙ copied in
    record {
      added = inv.added ++ use_of_parts one latency numbers ∷ [];
      is = pushed ∙ added_is slots before form keyword enough second g1 latency numbers i uses inv.added l inv.is inv.written part g one read;
      written = uses_next slots before form keyword enough second g1 latency numbers i uses inv.added l inv.is inv.written part g one read;
      are = subst (AreUses slots) (sym pushed) (are_next slots before form keyword enough second g1 latency numbers i uses inv.added l inv.is inv.written part g one read c.in_ok-latency.ensures.within third used_read inv.are);
      clear = uses_clear_next slots before form keyword enough second g1 latency numbers i uses inv.added l inv.is inv.written part g one read inv.clear;
    }

pub returns-clause-ops : goal.returns-clause-ops
returns-clause-ops c =
    let text = c.args.text.now in
    let form = sexp_form text c.args.form.now in
    let s = c.sexps_are_forms.ensures.stands text c.args.form.now c.requires.of in
    let slots = c.args.slots.now in
    let before = c.args.uses.now in
    let parts = c.in-Some.parts.now in
    let is = c.in-Some.ensures.parts text in
    let count = count_form text form (place_of form) parts is in
    let keyword = sym c.has_keyword.ensures ∙ c.if-not-has_keyword.false in
    let enough : 4 ≤ length (parts_of form) = (let f = c.if-parts-lt4.false in omega (arith, count, f)) in
    let second = sexp_form text c.index-parts-1.result in
    let g1 = nth_part text form (place_of form) parts 1 c.index-parts-1.result is (let f = c.if-parts-lt4.false in omega (arith, f)) c.index-parts-1.is in
    let third = sexp_form text c.index-parts-2.result in
    let g2 = nth_part text form (place_of form) parts 2 c.index-parts-2.result is (let f = c.if-parts-lt4.false in omega (arith, f)) c.index-parts-2.is in
    let latency = c.in_ok-latency.latency in
    let numbers = c.as_slice-numbers.result.now in
    let used_read = subst (AreUsedRead slots third) (sym c.as_slice-numbers.ensures) c.in_ok-used.ensures.used in
    let i = c.loop-index.index in
    let uses = c.loop-index.uses in
    let inv = c.loop-index.invariant in
    let l : 3 ≤ i = c.loop-index.auto.index in
    let most : length (parts_of form) ≤ i = (let f = c.loop-index-test.false in omega (arith, f, count)) in
    ops_whole slots before form keyword enough second g1 latency numbers i uses inv.added l inv.is inv.written third g2 c.in_ok-latency.ensures.latency used_read most inv.are inv.clear
