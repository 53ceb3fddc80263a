use Rattle.std.proofs.Common.{◌≤◌, length, sym, ◌∙◌, arith}
use Rattle.std.proofs.lemmas.Result.{err_from_is_err_and}
use Rattle.forms.proofs.Told.{told, told_of_part}
use Rattle.forms.specs.Forms.{place_of, parts_of, sexp_form}
use Rattle.machine_table.proofs.Parts.{count_form, nth_part, part_of}
use Rattle.machine_table.proofs.SlotForms.{no_cross_first, short_cross_first, delay_fault, cross_third_first, cross_read}
use Rattle.machine_table.specs.Reading.{IsTableFault}
use Rattle.machine_table.specs.Roles as roles
use Rattle.machine_table.proofs.reading.cross.Goals as goal

pub returns-then-not-has_keyword-clause-fault : goal.returns-then-not-has_keyword-clause-fault
returns-then-not-has_keyword-clause-fault c =
    let text = c.args.text.now in
    let form = sexp_form text c.args.form.now in
    let s = c.sexps_are_forms.ensures.stands text c.args.form.now c.requires.of in
    told (IsTableFault roles.cross form) c.at.result c.place.result (place_of form) _ c.at.ensures (c.place.ensures text)
    (no_cross_first form s.0 s.1 s.2 (sym c.has_keyword.ensures ∙ c.if-not-has_keyword.true))

pub returns-then-parts-lt2-clause-fault : goal.returns-then-parts-lt2-clause-fault
returns-then-parts-lt2-clause-fault c =
    let text = c.args.text.now in
    let form = sexp_form text c.args.form.now in
    let s = c.sexps_are_forms.ensures.stands text c.args.form.now c.requires.of in
    let parts = c.in-Some.parts.now in
    let is = c.in-Some.ensures.parts text in
    let count = count_form text form (place_of form) parts is in
    told (IsTableFault roles.cross form) c.at-then-parts-lt2.result c.place-then-parts-lt2.result (place_of form) _ c.at-then-parts-lt2.ensures (c.place-then-parts-lt2.ensures text)
    (short_cross_first form s.0 s.1 s.2 (let f = c.if-parts-lt2.true in omega (arith, count, f)))

pub returns-in_err-delay-clause-fault : goal.returns-in_err-delay-clause-fault
returns-in_err-delay-clause-fault c =
    let p = err_from_is_err_and c.from_residual.result c.from_residual.ensures.1 in
    let text = c.args.text.now in
    let form = sexp_form text c.args.form.now in
    let s = c.sexps_are_forms.ensures.stands text c.args.form.now c.requires.of in
    let parts = c.in-Some.parts.now in
    let is = c.in-Some.ensures.parts text in
    let count = count_form text form (place_of form) parts is in
    let keyword = sym c.has_keyword.ensures ∙ c.if-not-has_keyword.false in
    let enough : 2 ≤ length (parts_of form) = (let f = c.if-parts-lt2.false in omega (arith, count, f)) in
    let second = sexp_form text c.index-parts-1.result in
    let g1 = nth_part text form (place_of form) parts 1 c.index-parts-1.result is (let f = c.if-parts-lt2.false in omega (arith, f)) c.index-parts-1.is in
    rw (p.1, p.2)
    (told_of_part (IsTableFault roles.delay second) (IsTableFault roles.cross form) (delay_fault form s.0 s.1 s.2 keyword enough second g1) c.in_err-delay.field-0.0 c.in_err-delay.ensures.fault)

pub returns-then-parts-gt2-clause-fault : goal.returns-then-parts-gt2-clause-fault
returns-then-parts-gt2-clause-fault c =
    let text = c.args.text.now in
    let form = sexp_form text c.args.form.now in
    let s = c.sexps_are_forms.ensures.stands text c.args.form.now c.requires.of in
    let parts = c.in-Some.parts.now in
    let is = c.in-Some.ensures.parts text in
    let count = count_form text form (place_of form) parts is in
    let keyword = sym c.has_keyword.ensures ∙ c.if-not-has_keyword.false in
    let enough : 2 ≤ length (parts_of form) = (let f = c.if-parts-lt2.false in omega (arith, count, f)) in
    let second = sexp_form text c.index-parts-1.result in
    let g1 = nth_part text form (place_of form) parts 1 c.index-parts-1.result is (let f = c.if-parts-lt2.false in omega (arith, f)) c.index-parts-1.is in
    let of = c.sexps_are_forms.ensures.stands text c.index-parts-2.result (part_of text parts 2 c.index-parts-2.result (c.in-Some.ensures.of text c.requires.of) c.if-parts-gt2.true c.index-parts-2.is) in
    let g2 = nth_part text form (place_of form) parts 2 c.index-parts-2.result is c.if-parts-gt2.true c.index-parts-2.is in
    told (IsTableFault roles.cross form) c.at-then-parts-gt2.result c.place-then-parts-gt2.result (place_of (sexp_form text c.index-parts-2.result)) _ c.at-then-parts-gt2.ensures (c.place-then-parts-gt2.ensures text)
    (cross_third_first form s.0 s.1 s.2 keyword enough second g1 c.in_ok-delay.ensures.clear (sexp_form text c.index-parts-2.result) of.0 of.1 of.2 g2)

pub returns-clause-cross : goal.returns-clause-cross
returns-clause-cross c =
    let text = c.args.text.now in
    let form = sexp_form text c.args.form.now in
    let s = c.sexps_are_forms.ensures.stands text c.args.form.now c.requires.of in
    let parts = c.in-Some.parts.now in
    let is = c.in-Some.ensures.parts text in
    let count = count_form text form (place_of form) parts is in
    let keyword = sym c.has_keyword.ensures ∙ c.if-not-has_keyword.false in
    let enough : 2 ≤ length (parts_of form) = (let f = c.if-parts-lt2.false in omega (arith, count, f)) in
    let second = sexp_form text c.index-parts-1.result in
    let g1 = nth_part text form (place_of form) parts 1 c.index-parts-1.result is (let f = c.if-parts-lt2.false in omega (arith, f)) c.index-parts-1.is in
    cross_read form s.0 s.1 s.2 keyword enough second g1 c.in_ok-delay.ensures.clear c.in_ok-delay.delay (let f = c.if-parts-gt2.false in omega (arith, count, f)) c.in_ok-delay.ensures.delay c.in_ok-delay.ensures.below
