use Rattle.std.proofs.Common.{◌≡◌, ◌∷◌, ◌++◌, ◌||◌, ◌∙◌, [], sym, ap}
use Rattle.std.proofs.lemmas.Result.{err_from_is_err_and}
use Rattle.forms.specs.Forms.{place_of, sexp_form}
use Rattle.forms.proofs.Told.{told}
use Rattle.code_lift.specs.LiftRoles as roles
use Rattle.code_lift.specs.LiftRoles.{IsLiftFaultAs, has_many_assumes, has_many_inputs, lifted_in}
use Rattle.code_lift.specs.Lifted.{lift_step, lifted}
use Rattle.code_lift.specs.LiftingView.{lifting_view}
use Rattle.code_lift.proofs.LiftLeaves.{few_within, limit_first, plain_true}
use Rattle.code_lift.proofs.LiftLists.{lifted_next}
use Rattle.code_lift.proofs.WordByWord.{lifted_behind}
use Rattle.code_lift.proofs.words.next_word.Goals as goal

pub returns-in_err-word-clause-fault : goal.returns-in_err-word-clause-fault
returns-in_err-word-clause-fault c =
    let p = err_from_is_err_and c.from_residual.result c.from_residual.ensures.1 in
    rw (p.1, p.2) (λ before words are counted known. c.in_err-word.ensures.fault before)

pub returns-then-has_many-clause-fault : goal.returns-then-has_many-clause-fault
returns-then-has_many-clause-fault c = λ before words are counted known.
    let text = c.args.text.now in
    let form = sexp_form text c.args.form.now in
    let s = c.sexps_are_forms.ensures.stands text c.args.form.now c.requires.of in
    let word = c.in_ok-word.word in
    let behind : lifting_view c.step.new.self ≡ lifted (words ++ word ∷ []) =
    c.in_ok-step.ensures.step ∙ ap (lift_step c.args.index c.in-Some.instr) known ∙ ap (λ n. lift_step n c.in-Some.instr (lifted words)) (sym counted)
    ∙ sym (lifted_behind words word c.in-Some.instr are.plain (sym c.in-Some.ensures.fields)) in
    let here : lifting_view c.step.new.self ≡ lifted_in (before ++ form ∷ []) = behind ∙ sym (lifted_next before words form word are.each c.in_ok-word.ensures.word) in
    told (IsLiftFaultAs (roles.a_word before) form) c.at.result c.place.result (place_of form) _ c.at.ensures (c.place.ensures text)
    (limit_first before form s.0 s.1 word s.2 c.in_ok-word.ensures.word (plain_true word c.in_ok-word.ensures.plain)
    (sym (ap (λ t. has_many_inputs t || has_many_assumes t) here) ∙ sym c.has_many.ensures ∙ c.if-has_many.true))

pub returns-clause-behind : goal.returns-clause-behind
returns-clause-behind c = λ words plain counted known.
    c.in_ok-step.ensures.step ∙ ap (lift_step c.args.index c.in-Some.instr) known ∙ ap (λ n. lift_step n c.in-Some.instr (lifted words)) (sym counted)
    ∙ sym (lifted_behind words c.in_ok-word.word c.in-Some.instr plain (sym c.in-Some.ensures.fields))

pub returns-clause-within : goal.returns-clause-within
returns-clause-within c = few_within (lifting_view c.step.new.self) (sym c.has_many.ensures ∙ c.if-has_many.false)
