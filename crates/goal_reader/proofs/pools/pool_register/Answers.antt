use Rattle.std.proofs.Common.{true, ◌≡◌, ◌++◌, sym, ◌∙◌}
use Rattle.std.proofs.lemmas.Result.{err_from_is_err_and}
use Rattle.forms.specs.Forms.{place_of, sexp_form}
use Rattle.forms.proofs.Told.{told}
use Rattle.goal_reader.specs.Roles as roles
use Rattle.goal_reader.specs.Roles.{IsFaultAs}
use Rattle.goal_meaning.specs.WellFormed.{input_registers}
use Rattle.goal_reader.proofs.NewNames.{given_first, or_first, or_last}
use Rattle.goal_reader.proofs.PoolSteps.{register_both}
use Rattle.goal_meaning.specs.Rules.{has_register}
use Rattle.goal_reader.proofs.pools.pool_register.Goals as goal
use Rattle.goal_reader.proofs.pools.pool_register.Goals.{then-is_given-via-then-is_given, then-is_given-via-else-is_given+then-is_in_pool}

pub returns-in_err-number-clause-fault : goal.returns-in_err-number-clause-fault
returns-in_err-number-clause-fault c =
    let p = err_from_is_err_and c.from_residual.result c.from_residual.ensures.1 in
    rw (p.1, p.2) (c.in_err-number.ensures.fault (input_registers c.args.inputs.now ++ c.args.pool.now))

pub returns-then-is_given-clause-fault : goal.returns-then-is_given-clause-fault
returns-then-is_given-clause-fault c =
    let text = c.args.text.now in
    let form = sexp_form text c.args.form.now in
    let s = c.sexps_are_forms.ensures.stands text c.args.form.now c.requires.of in
    let given : has_register (input_registers c.args.inputs.now ++ c.args.pool.now) c.in_ok-number.number ≡ true = elim c.then-is_given.branch [
      | then-is_given-via-then-is_given w ↦ register_both (input_registers c.args.inputs.now) (c.args.pool.now) c.in_ok-number.number ∙ or_first (has_register (input_registers c.args.inputs.now) c.in_ok-number.number) (has_register (c.args.pool.now) c.in_ok-number.number) (sym c.is_given.ensures ∙ w.if-is_given.true)
      | then-is_given-via-else-is_given+then-is_in_pool w ↦ register_both (input_registers c.args.inputs.now) (c.args.pool.now) c.in_ok-number.number ∙ or_last (has_register (input_registers c.args.inputs.now) c.in_ok-number.number) (has_register (c.args.pool.now) c.in_ok-number.number) (sym w.is_in_pool.ensures ∙ w.if-is_in_pool.true)
    ] in
    told (IsFaultAs (roles.fresh_register (input_registers c.args.inputs.now ++ c.args.pool.now)) form) c.at.result c.place.result (place_of form) _ c.at.ensures (c.place.ensures text)
    (given_first (input_registers c.args.inputs.now ++ c.args.pool.now) form s.0 s.1 s.2 c.in_ok-number.number c.in_ok-number.ensures.register given)
