use Rattle.std.proofs.Common.{rules, codes, true, ◌≡◌, ◌++◌, if◌then◌else◌, Some, sym, ◌∙◌, ap, subst}
use Rattle.std.specs.Prelude.{bytes_eq}
use Rattle.std.proofs.lemmas.Result.{err_from_is_err_and}
use Rattle.text_core.specs.declared.faults.Kind.TheVariants.{BadForm, Twice}
use Rattle.text_core.specs.Faults.{IsFirst, IsFaultBy}
use Rattle.forms.specs.Forms.{place_of, sexp_form}
use Rattle.forms.proofs.Told.{told}
use Rattle.goal_reader.specs.Roles.{Role, IsFaultAs, fresh_register, pin_role, wrong}
use Rattle.goal_reader.specs.Reading.{pins_of_targets}
use Rattle.goal_reader.proofs.Fixed.{wrong_first}
use Rattle.goal_reader.proofs.NewNames.{given_first, or_first, or_last}
use Rattle.goal_reader.proofs.PoolSteps.{register_both}
use Rattle.goal_meaning.specs.Rules.{has_register}
use Rattle.goal_reader.proofs.targets.target_pin.Goals as goal
use Rattle.goal_reader.proofs.targets.target_pin.Goals.{then-is_in_pool-via-then-is_in_pool, then-is_in_pool-via-else-is_in_pool+then-is_pin}

pub returns-then-eq-clause-fault : goal.returns-then-eq-clause-fault
returns-then-eq-clause-fault c =
    let text = c.args.text.now in
    let form = sexp_form text c.args.form.now in
    let taken = c.args.pool.now ++ pins_of_targets c.args.targets.now in
    let s = c.sexps_are_forms.ensures.stands text c.args.form.now c.requires.of in
    let memory : bytes_eq c.args.name.now (codes "M") ≡ c.eq.result = search rules in
    let role : pin_role taken (Some c.args.name.now) ≡ wrong = ap (λ b. if b then wrong else fresh_register taken) (memory ∙ c.if-eq.true) in
    told (IsFaultAs (pin_role taken (Some c.args.name.now)) form) c.at.result c.place.result (place_of form) _ c.at.ensures (c.place.ensures text)
    (subst (λ (r : Role). IsFirst (IsFaultAs r form) (place_of form) BadForm) (sym role) (wrong_first form s.0 s.1 s.2))

pub returns-in_err-number-clause-fault : goal.returns-in_err-number-clause-fault
returns-in_err-number-clause-fault c =
    let p = err_from_is_err_and c.from_residual.result c.from_residual.ensures.1 in
    let form = sexp_form c.args.text.now c.args.form.now in
    let taken = c.args.pool.now ++ pins_of_targets c.args.targets.now in
    let memory : bytes_eq c.args.name.now (codes "M") ≡ c.eq.result = search rules in
    let role : pin_role taken (Some c.args.name.now) ≡ fresh_register taken = ap (λ b. if b then wrong else fresh_register taken) (memory ∙ c.if-eq.false) in
    rw (p.1, p.2) (subst (λ (r : Role). IsFaultBy (IsFirst (IsFaultAs r form)) c.in_err-number.field-0.0) (sym role) (c.in_err-number.ensures.fault taken))

pub returns-then-is_in_pool-clause-fault : goal.returns-then-is_in_pool-clause-fault
returns-then-is_in_pool-clause-fault c =
    let text = c.args.text.now in
    let form = sexp_form text c.args.form.now in
    let taken = c.args.pool.now ++ pins_of_targets c.args.targets.now in
    let s = c.sexps_are_forms.ensures.stands text c.args.form.now c.requires.of in
    let memory : bytes_eq c.args.name.now (codes "M") ≡ c.eq.result = search rules in
    let role : pin_role taken (Some c.args.name.now) ≡ fresh_register taken = ap (λ b. if b then wrong else fresh_register taken) (memory ∙ c.if-eq.false) in
    let given : has_register (c.args.pool.now ++ pins_of_targets c.args.targets.now) c.in_ok-number.number ≡ true = elim c.then-is_in_pool.branch [
      | then-is_in_pool-via-then-is_in_pool w ↦ register_both (c.args.pool.now) (pins_of_targets c.args.targets.now) c.in_ok-number.number ∙ or_first (has_register (c.args.pool.now) c.in_ok-number.number) (has_register (pins_of_targets c.args.targets.now) c.in_ok-number.number) (sym c.is_in_pool.ensures ∙ w.if-is_in_pool.true)
      | then-is_in_pool-via-else-is_in_pool+then-is_pin w ↦ register_both (c.args.pool.now) (pins_of_targets c.args.targets.now) c.in_ok-number.number ∙ or_last (has_register (c.args.pool.now) c.in_ok-number.number) (has_register (pins_of_targets c.args.targets.now) c.in_ok-number.number) (sym w.is_pin.ensures ∙ w.if-is_pin.true)
    ] in
    told (IsFaultAs (pin_role taken (Some c.args.name.now)) form) c.at-then-is_in_pool.result c.place-then-is_in_pool.result (place_of form) _ c.at-then-is_in_pool.ensures (c.place-then-is_in_pool.ensures text)
    (subst (λ (r : Role). IsFirst (IsFaultAs r form) (place_of form) Twice) (sym role)
    (given_first taken form s.0 s.1 s.2 c.in_ok-number.number c.in_ok-number.ensures.register given))
