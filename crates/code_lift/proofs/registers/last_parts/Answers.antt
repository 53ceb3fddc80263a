use Rattle.std.proofs.Common.{◌++◌, ◌∙◌, List, ℕ, sym, ap, subst, arith}
use Rattle.std.specs.Option.{option_copied}
use Rattle.std.proofs.lemmas.Result.{err_from_is_err_and}
use Rattle.text_core.specs.Faults.{IsFaultBy}
use Rattle.text_core.specs.declared.faults.Kind.TheVariants.{BadForm}
use Rattle.forms.specs.Forms.{place_of, sexp_form, sexp_forms}
use Rattle.forms.proofs.Told.{told, told_as}
use Rattle.goal_reader.proofs.Heads.{part_form}
use Rattle.goal_reader.proofs.NewNames.{part_of}
use Rattle.goal_reader.proofs.TextEnd.{nth_form}
use Rattle.code_lift.specs.LiftReading.{ArePoolRegisters, IsFirstBehindOut, IsFirstInLift, in_next, in_pool}
use Rattle.code_lift.specs.LiftRoles as roles
use Rattle.code_lift.specs.LiftRoles.{IsLiftFaultAs}
use Rattle.code_lift.specs.Lifted.{inputs_read}
use Rattle.code_lift.specs.LiftingView.{lifting_view}
use Rattle.code_lift.proofs.LiftForms.{nothing_behind, other_first, pool_behind, pool_first, pool_role_clear}
use Rattle.code_lift.proofs.LiftLeaves.{wrong_first}
use Rattle.code_lift.proofs.SliceForms.{first_sexp}
use Rattle.code_lift.proofs.registers.last_parts.Goals as goal

pub returns-in_default-clause-pool : goal.returns-in_default-clause-pool
returns-in_default-clause-pool c = nothing_behind c.args.text.now c.args.parts.now (sym c.first.ensures.value ∙ ap option_copied c.in_default.is)

pub returns-then-not-has_head-clause-fault : goal.returns-then-not-has_head-clause-fault
returns-then-not-has_head-clause-fault c =
    let text = c.args.text.now in
    let taken : List ℕ = inputs_read (lifting_view c.args.lifting.now) ++ c.args.out.now in
    let first = sym c.first.ensures.value ∙ ap option_copied c.in-Some.is in
    let form = sexp_form text c.in-Some.form.now in
    let g = part_form text c.args.parts.now 0 c.in-Some.form.now first in
    let s = c.sexps_are_forms.ensures.stands text c.in-Some.form.now (first_sexp text c.args.parts.now c.in-Some.form.now first c.requires.of) in
    told_as (IsFirstInLift (roles.lift_pool_role taken form) form) (IsFirstBehindOut taken (sexp_forms text c.args.parts.now)) (λ k kind one. in_pool form g one) c.at.result
    (told (IsLiftFaultAs (roles.lift_pool_role taken form) form) c.at.result c.place.result (place_of form) BadForm c.at.ensures (c.place.ensures text)
    (other_first taken form s.0 s.1 s.2 (sym c.has_head.ensures ∙ c.if-not-has_head.true)))

pub returns-in_err-pool-clause-fault : goal.returns-in_err-pool-clause-fault
returns-in_err-pool-clause-fault c =
    let p = err_from_is_err_and c.from_residual-in_err-pool.result c.from_residual-in_err-pool.ensures.1 in
    let text = c.args.text.now in
    let taken : List ℕ = inputs_read (lifting_view c.args.lifting.now) ++ c.args.out.now in
    let first = sym c.first.ensures.value ∙ ap option_copied c.in-Some.is in
    let form = sexp_form text c.in-Some.form.now in
    let g = part_form text c.args.parts.now 0 c.in-Some.form.now first in
    let head = sym c.has_head.ensures ∙ c.if-not-has_head.false in
    rw (p.1, p.2)
    (told_as (IsFirstInLift (roles.a_pool taken) form) (IsFirstBehindOut taken (sexp_forms text c.args.parts.now)) (λ k kind one. in_pool form g (pool_first taken form k kind head one)) c.in_err-pool.field-0.0
    (subst (λ ts. IsFaultBy (IsFirstInLift (roles.a_pool ts) form) c.in_err-pool.field-0.0) c.in_ok-taken.ensures c.in_err-pool.ensures.fault))

pub returns-then-parts-gt1-clause-fault : goal.returns-then-parts-gt1-clause-fault
returns-then-parts-gt1-clause-fault c =
    let text = c.args.text.now in
    let taken : List ℕ = inputs_read (lifting_view c.args.lifting.now) ++ c.args.out.now in
    let parts = c.args.parts.now in
    let first = sym c.first.ensures.value ∙ ap option_copied c.in-Some.is in
    let form = sexp_form text c.in-Some.form.now in
    let g = part_form text parts 0 c.in-Some.form.now first in
    let other = sexp_form text c.index-parts-1.result in
    let more = c.if-parts-gt1.true in
    let next = nth_form text parts 1 c.index-parts-1.result (omega (arith, more)) c.index-parts-1.is in
    let s = c.sexps_are_forms.ensures.stands text c.index-parts-1.result (part_of text parts 1 c.index-parts-1.result c.requires.of (omega (arith, more)) c.index-parts-1.is) in
    let apart = subst (λ ts. ArePoolRegisters ts c.in_ok-pool.pool) c.in_ok-taken.ensures c.in_ok-pool.ensures.apart in
    told_as (IsFirstInLift roles.wrong other) (IsFirstBehindOut taken (sexp_forms text parts)) (λ k kind one. in_next form other g (pool_role_clear taken form c.in_ok-pool.pool c.in_ok-pool.ensures.pool apart) next one) c.at-then-parts-gt1.result
    (told (IsLiftFaultAs roles.wrong other) c.at-then-parts-gt1.result c.place-then-parts-gt1.result (place_of other) BadForm c.at-then-parts-gt1.ensures (c.place-then-parts-gt1.ensures text)
    (wrong_first other s.0 s.1 s.2))

pub returns-clause-pool : goal.returns-clause-pool
returns-clause-pool c =
    let first = sym c.first.ensures.value ∙ ap option_copied c.in-Some.is in
    let few = c.if-parts-gt1.false in
    pool_behind c.args.text.now c.args.parts.now c.in-Some.form.now c.in_ok-pool.pool first (omega (arith, few)) c.in_ok-pool.ensures.pool
