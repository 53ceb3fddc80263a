use Rattle.std.proofs.Common.{◌≡◌, ◌++◌, ◌≤◌, false, length, ◌∙◌, ap, subst, arith}
use Rattle.std.proofs.lemmas.Result.{err_from_is_err_and}
use Rattle.std.proofs.lemmas.List.{take_all}
use Rattle.text_core.specs.Faults.{IsFirst, IsFaultBy}
use Rattle.forms.specs.Forms.{place_of, sexp_form, parts_of}
use Rattle.forms.proofs.Told.{told_of_part}
use Rattle.goal_reader.specs.Roles as roles
use Rattle.goal_reader.specs.Roles.{IsFaultAs, goal_keywords, registers_in}
use Rattle.goal_meaning.specs.Rules.{has_register}
use Rattle.goal_meaning.specs.WellFormed.{input_registers}
use Rattle.goal_reader.proofs.NewNames.{nth_part, count_form}
use Rattle.goal_reader.proofs.PoolSteps.{clear_one, keyword_first, pool_first, pool_clear_more, registers_next, pool_clear}
use Rattle.goal_reader.proofs.Ranks.{has_parts}
use Rattle.goal_reader.proofs.pools.pool.Goals as goal

pub unreachable-requires : goal.unreachable-requires
unreachable-requires c =
    has_parts goal_keywords 1 (sexp_form c.args.text.now c.args.form.now) c.requires.keyword (c.in_default.ensures.parts c.args.text.now)

pub returns-in_err-register-clause-fault : goal.returns-in_err-register-clause-fault
returns-in_err-register-clause-fault c =
    let p = err_from_is_err_and c.from_residual.result c.from_residual.ensures.1 in
    let text = c.args.text.now in
    let form = sexp_form text c.args.form.now in
    let parts = c.in-Some.parts.now in
    let is = c.in-Some.ensures.parts text in
    let count = count_form text form (place_of form) parts is in
    let first = keyword_first form 1 goal_keywords c.requires.keyword in
    let i = c.loop-index.index in
    let l = c.loop-index.auto.index in
    let g = nth_part text form (place_of form) parts i c.index-parts-index.result is c.loop-index-test.true c.index-parts-index.is in
    let given = input_registers c.args.inputs.now in
    let items = c.loop-index.pool.items in
    let s = c.sexps_are_forms.ensures.stands text c.args.form.now c.requires.of in
    let part = sexp_form text c.index-parts-index.result in
    let told = subst (λ xs. IsFaultBy (IsFirst (IsFaultAs (roles.fresh_register (given ++ xs)) part)) c.in_err-register.field-0.0) c.deref.ensures.value c.in_err-register.ensures.fault in
    rw (p.1, p.2)
    (told_of_part (IsFaultAs (roles.fresh_register (given ++ items)) part) (IsFaultAs (roles.a_list (roles.pool given)) form)
    (λ p k one. pool_first given form s.0 s.1 i part items p k s.2 first.0 l g c.loop-index.invariant.read c.loop-index.invariant.clear one) c.in_err-register.field-0.0 told)

pub loop-index-preserved : goal.loop-index-preserved
loop-index-preserved c =
    let text = c.args.text.now in
    let form = sexp_form text c.args.form.now in
    let parts = c.in-Some.parts.now in
    let is = c.in-Some.ensures.parts text in
    let count = count_form text form (place_of form) parts is in
    let first = keyword_first form 1 goal_keywords c.requires.keyword in
    let i = c.loop-index.index in
    let l = c.loop-index.auto.index in
    let g = nth_part text form (place_of form) parts i c.index-parts-index.result is c.loop-index-test.true c.index-parts-index.is in
    let given = input_registers c.args.inputs.now in
    let items = c.loop-index.pool.items in
    let part = sexp_form text c.index-parts-index.result in
    let fresh = subst (λ xs. has_register (given ++ xs) c.in_ok-register.register ≡ false) c.deref.ensures.value c.in_ok-register.ensures.fresh in
    record {
      read = c.in_ok-push.ensures.items ∙ registers_next given form i part items c.in_ok-register.register g c.loop-index.invariant.read c.in_ok-register.ensures.register;
      clear = pool_clear_more given form i part items c.in_ok-register.register l g c.loop-index.invariant.read c.in_ok-register.ensures.register fresh c.loop-index.invariant.clear;
    }

pub loop-index-init : goal.loop-index-init
loop-index-init c =
    let text = c.args.text.now in
    let form = sexp_form text c.args.form.now in
    let parts = c.in-Some.parts.now in
    let is = c.in-Some.ensures.parts text in
    let count = count_form text form (place_of form) parts is in
    let first = keyword_first form 1 goal_keywords c.requires.keyword in
    record { read = c.new-pool.ensures.items ∙ first.1; clear = clear_one (input_registers c.args.inputs.now) form }

pub returns-clause-pool : goal.returns-clause-pool
returns-clause-pool c =
    let text = c.args.text.now in
    let form = sexp_form text c.args.form.now in
    let parts = c.in-Some.parts.now in
    let is = c.in-Some.ensures.parts text in
    let count = count_form text form (place_of form) parts is in
    let first = keyword_first form 1 goal_keywords c.requires.keyword in
    let most : length (parts_of form) ≤ c.loop-index.index = (let f = c.loop-index-test.false in omega (arith, f, count)) in
    c.loop-index.invariant.read ∙ ap registers_in (take_all c.loop-index.index (parts_of form) most)

pub returns-clause-clear : goal.returns-clause-clear
returns-clause-clear c =
    let text = c.args.text.now in
    let form = sexp_form text c.args.form.now in
    let parts = c.in-Some.parts.now in
    let is = c.in-Some.ensures.parts text in
    let count = count_form text form (place_of form) parts is in
    let first = keyword_first form 1 goal_keywords c.requires.keyword in
    let most : length (parts_of form) ≤ c.loop-index.index = (let f = c.loop-index-test.false in omega (arith, f, count)) in
    pool_clear (input_registers c.args.inputs.now) form c.loop-index.index first.0 most c.loop-index.invariant.clear
