use Rattle.std.proofs.Common.{◌≤◌, ◌^◌, ◌∙◌, Some, ap, arith, sym}
use Rattle.forms.specs.Forms.{place_of, sexp_form}
use Rattle.forms.proofs.Told.{told}
use Rattle.code_lift.specs.LiftRoles as roles
use Rattle.code_lift.specs.LiftRoles.{IsLiftFaultAs}
use Rattle.code_lift.proofs.LiftLeaves.{no_number_first, not_plain, plain_from, stray_first}
use Rattle.code_lift.proofs.words.word.Goals as goal

pub returns-in_default-clause-fault : goal.returns-in_default-clause-fault
returns-in_default-clause-fault c = λ before.
    let text = c.args.text.now in
    let form = sexp_form text c.args.form.now in
    let s = c.sexps_are_forms.ensures.stands text c.args.form.now c.requires.of in
    told (IsLiftFaultAs (roles.a_word before) form) c.at.result c.place.result (place_of form) _ c.at.ensures (c.place.ensures text)
    (no_number_first before form s.0 s.1 s.2 (sym (c.in_default.ensures text)))

pub returns-in_default-try_from-clause-fault : goal.returns-in_default-try_from-clause-fault
returns-in_default-try_from-clause-fault c = λ before.
    let text = c.args.text.now in
    let form = sexp_form text c.args.form.now in
    let s = c.sexps_are_forms.ensures.stands text c.args.form.now c.requires.of in
    let above : 2 ^ 32 ≤ c.in-Some.value = omega arith in
    told (IsLiftFaultAs (roles.a_word before) form) c.at-in_default-try_from.result c.place-in_default-try_from.result (place_of form) _ c.at-in_default-try_from.ensures (c.place-in_default-try_from.ensures text)
    (stray_first before form s.0 s.1 c.in-Some.value s.2 (sym (c.in-Some.ensures text)) (not_plain c.in-Some.value above))

pub returns-then-not-is_plain-clause-fault : goal.returns-then-not-is_plain-clause-fault
returns-then-not-is_plain-clause-fault c = λ before.
    let text = c.args.text.now in
    let form = sexp_form text c.args.form.now in
    let s = c.sexps_are_forms.ensures.stands text c.args.form.now c.requires.of in
    told (IsLiftFaultAs (roles.a_word before) form) c.at-then-not-is_plain.result c.place-then-not-is_plain.result (place_of form) _ c.at-then-not-is_plain.ensures (c.place-then-not-is_plain.ensures text)
    (stray_first before form s.0 s.1 c.in-Ok.word s.2 (sym (c.in-Some.ensures text) ∙ ap Some (sym c.in-Ok.ensures.1)) (sym c.is_plain.ensures ∙ c.if-not-is_plain.true))

pub returns-clause-plain : goal.returns-clause-plain
returns-clause-plain c = plain_from c.in-Ok.word (sym c.is_plain.ensures ∙ c.if-not-is_plain.false)
