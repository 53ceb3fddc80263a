use Rattle.std.proofs.Common.{◌∙◌, sym, arith}
use Rattle.text_core.specs.declared.faults.Kind.TheVariants.{BadForm, LimitPassed}
use Rattle.forms.specs.Forms.{place_of, sexp_form}
use Rattle.forms.proofs.Told.{told}
use Rattle.code_lift.specs.LiftRoles as roles
use Rattle.code_lift.specs.LiftRoles.{IsLiftFaultAs}
use Rattle.code_lift.proofs.LiftForms.{many_lifts_first, no_lift_first}
use Rattle.code_lift.proofs.reading.next_lift.Goals as goal

pub returns-then-not-has_head-clause-fault : goal.returns-then-not-has_head-clause-fault
returns-then-not-has_head-clause-fault c = λ front counted given.
    let text = c.args.text.now in
    let form = sexp_form text c.args.form.now in
    let s = c.sexps_are_forms.ensures.stands text c.args.form.now c.requires.of in
    told (IsLiftFaultAs (roles.next_lift_role front form) form) c.at.result c.place.result (place_of form) BadForm c.at.ensures (c.place.ensures text)
    (no_lift_first front form s.0 s.1 s.2 (sym c.has_head.ensures ∙ c.if-not-has_head.true))

pub returns-then-before-ge-MOST_LIFTS-clause-fault : goal.returns-then-before-ge-MOST_LIFTS-clause-fault
returns-then-before-ge-MOST_LIFTS-clause-fault c = λ front counted given.
    let text = c.args.text.now in
    let form = sexp_form text c.args.form.now in
    let s = c.sexps_are_forms.ensures.stands text c.args.form.now c.requires.of in
    let many = c.if-before-ge-MOST_LIFTS.true in
    told (IsLiftFaultAs (roles.next_lift_role front form) form) c.at-then-before-ge-MOST_LIFTS.result c.place-then-before-ge-MOST_LIFTS.result (place_of form) LimitPassed
    c.at-then-before-ge-MOST_LIFTS.ensures (c.place-then-before-ge-MOST_LIFTS.ensures text)
    (many_lifts_first front form s.0 s.1 s.2 (sym c.has_head.ensures ∙ c.if-not-has_head.false) (omega (arith, many, counted)))
