use Rattle.std.proofs.Common.{◌+◌, ◌≤◌, ◌∷◌, ◌++◌, ◌∙◌, [], length, sym, ap, subst, arith}
use Rattle.std.proofs.lemmas.List.{append-nil, append_assoc}
use Rattle.std.proofs.lemmas.Result.{err_from_is_err_and}
use Rattle.text_core.specs.Faults.{IsFaultBy, IsFirst}
use Rattle.forms.specs.Forms.{parts_of, place_of, sexp_form}
use Rattle.forms.proofs.Told.{told_of_part}
use Rattle.goal_meaning.specs.Rules.{has_register}
use Rattle.goal_reader.specs.Roles as goal_roles
use Rattle.goal_reader.specs.Roles.{IsFaultAs}
use Rattle.goal_reader.proofs.NewNames.{count_form, nth_part}
use Rattle.code_lift.specs.LiftRoles as roles
use Rattle.code_lift.specs.LiftRoles.{IsLiftFaultAs}
use Rattle.code_lift.proofs.RegistersRead.{ArePoolRead, no_pool_read, pool_more, pool_part_first, registers_written}
use Rattle.code_lift.proofs.registers.pool.Goals as goal

pub loop-index-init : goal.loop-index-init
loop-index-init c =
    let form = sexp_form c.args.text.now c.args.form.now in
    let taken = c.args.taken.items in
    record {
      read = subst (λ rs. ArePoolRead taken form 1 rs) (sym c.new-pool.ensures) (no_pool_read taken form);
      given = sym (append-nil taken) ∙ ap (λ rs. taken ++ rs) (sym c.new-pool.ensures);
    }

pub returns-in_err-register-clause-fault : goal.returns-in_err-register-clause-fault
returns-in_err-register-clause-fault c =
    let p = err_from_is_err_and c.from_residual.result c.from_residual.ensures.1 in
    let text = c.args.text.now in
    let form = sexp_form text c.args.form.now in
    let s = c.sexps_are_forms.ensures.stands text c.args.form.now c.requires.of in
    let parts = c.in-Some.parts.now in
    let is = c.in-Some.ensures.parts text in
    let i = c.loop-index.index in
    let inv = c.loop-index.invariant in
    let taken = c.args.taken.items in
    let pool = c.loop-index.pool in
    let g = nth_part text form (place_of form) parts i c.index-parts-index.result is c.loop-index-test.true c.index-parts-index.is in
    let part = sexp_form text c.index-parts-index.result in
    rw (p.1, p.2)
    (told_of_part (IsFaultAs (goal_roles.fresh_register (taken ++ pool)) part) (IsLiftFaultAs (roles.a_pool taken) form)
    (λ k kind one. pool_part_first taken form c.requires.head s.0 s.1 s.2 i pool inv.read c.loop-index.auto.index part g k kind one)
    c.in_err-register.field-0.0
    (subst (λ rs. IsFaultBy (IsFirst (IsFaultAs (goal_roles.fresh_register rs) part)) c.in_err-register.field-0.0) (c.deref.ensures.value ∙ inv.given) c.in_err-register.ensures.fault))

pub loop-index-preserved : goal.loop-index-preserved
loop-index-preserved c =
    let text = c.args.text.now in
    let form = sexp_form text c.args.form.now in
    let parts = c.in-Some.parts.now in
    let is = c.in-Some.ensures.parts text in
    let i = c.loop-index.index in
    let inv = c.loop-index.invariant in
    let taken = c.args.taken.items in
    let pool = c.loop-index.pool in
    let r = c.in_ok-register.register in
    let g = nth_part text form (place_of form) parts i c.index-parts-index.result is c.loop-index-test.true c.index-parts-index.is in
    let part = sexp_form text c.index-parts-index.result in
    let given = c.deref.ensures.value ∙ inv.given in
    record {
      read = subst (λ rs. ArePoolRead taken form (i + 1) rs) (sym c.in_ok-push-2.ensures.ok)
          (pool_more taken form i pool part r inv.read c.loop-index.auto.index g c.in_ok-register.ensures.register (sym (ap (λ rs. has_register rs r) given) ∙ c.in_ok-register.ensures.fresh));
      given = c.in_ok-push.ensures.items ∙ ap (λ rs. rs ++ r ∷ []) inv.given ∙ append_assoc taken pool (r ∷ []) ∙ ap (λ rs. taken ++ rs) (sym c.in_ok-push-2.ensures.ok);
    }

pub returns-clause-pool : goal.returns-clause-pool
returns-clause-pool c =
    let text = c.args.text.now in
    let form = sexp_form text c.args.form.now in
    let parts = c.in-Some.parts.now in
    let is = c.in-Some.ensures.parts text in
    let count = count_form text form (place_of form) parts is in
    let i = c.loop-index.index in
    let most : length (parts_of form) ≤ i = (let f = c.loop-index-test.false in omega (arith, f, count)) in
    registers_written _ form i c.loop-index.pool c.requires.head most c.loop-index.invariant.read.each
