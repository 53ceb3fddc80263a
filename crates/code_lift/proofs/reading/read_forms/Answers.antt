use Rattle.std.proofs.Common.{◌≡◌, ◌-◌, ◌∙◌, ℕ, List, length, map, take, drop, ap, subst, arith}
use mir.Val.{bool_byte}
use Rattle.std.proofs.lemmas.List.{length-map}
use Rattle.std.proofs.lemmas.Result.{err_from_is_err_and}
use Rattle.text_core.specs.Faults.{IsFaultBy, IsFirst}
use Rattle.forms.specs.Forms.{Form, sexp_forms}
use Rattle.forms.proofs.Told.{told_as, told_of_part}
use Rattle.machine_table.specs.Grammar.{Each}
use Rattle.code_lift.specs.LiftGrammar.{WritesLift}
use Rattle.code_lift.specs.LiftReading.{IsTableWrong}
use Rattle.code_lift.specs.LiftRoles.{IsLiftTextFault, IsLiftsFault}
use Rattle.code_lift.specs.Views.{lift_view, lifts_view}
use Rattle.code_lift.proofs.SliceForms.{forms_left}
use Rattle.code_lift.proofs.LiftTexts.{lifts_written, number_of_tables, table_wrong_first, text_lifts_first}
use Rattle.code_lift.proofs.reading.read_forms.Goals as goal

pub returns-in_err-given-clause-fault : goal.returns-in_err-given-clause-fault
returns-in_err-given-clause-fault c =
    let p = err_from_is_err_and c.from_residual.result c.from_residual.ensures.1 in
    let text = c.args.text.now in
    let all = sexp_forms text c.args.forms.now in
    let size = length text in
    rw (p.1, p.2)
    (told_as (IsTableWrong all) (IsFirst (IsLiftTextFault size all)) (λ k kind f. table_wrong_first size all c.requires.stand k kind f) c.in_err-given.field-0.0 c.in_err-given.ensures.fault)

pub returns-in_err-lifts-clause-fault : goal.returns-in_err-lifts-clause-fault
returns-in_err-lifts-clause-fault c =
    let p = err_from_is_err_and c.from_residual-in_err-lifts.result c.from_residual-in_err-lifts.ensures.1 in
    let text = c.args.text.now in
    let all = sexp_forms text c.args.forms.now in
    let size = length text in
    let given = c.in_ok-given.given in
    let here = c.in_ok-given.ensures.table in
    let n : ℕ = number_of_tables given in
    let counted : c.from-first.result ≡ n = c.from-first.ensures ∙ ap bool_byte c.is_some.ensures in
    let rest : sexp_forms text (take (length c.args.forms.now - c.from-first.result) (drop c.from-first.result c.args.forms.now)) ≡ drop n all = forms_left text c.from-first.result c.args.forms.now ∙ ap (λ k. drop k all) counted in
    rw (p.1, p.2)
    (told_of_part (IsLiftsFault size (drop n all)) (IsLiftTextFault size all) (λ k kind f. text_lifts_first c.one_table.ensures.clear size all given here k kind f) c.in_err-lifts.field-0.0
    (subst (λ fs. IsFaultBy (IsFirst (IsLiftsFault size fs)) c.in_err-lifts.field-0.0) rest c.in_err-lifts.ensures.fault))

pub returns-clause-written : goal.returns-clause-written
returns-clause-written c =
    let text = c.args.text.now in
    let all = sexp_forms text c.args.forms.now in
    let size = length text in
    let given = c.in_ok-given.given in
    let here = c.in_ok-given.ensures.table in
    let n : ℕ = number_of_tables given in
    let counted : c.from-first.result ≡ n = c.from-first.ensures ∙ ap bool_byte c.is_some.ensures in
    let rest : sexp_forms text (take (length c.args.forms.now - c.from-first.result) (drop c.from-first.result c.args.forms.now)) ≡ drop n all = forms_left text c.from-first.result c.args.forms.now ∙ ap (λ k. drop k all) counted in
    let lifts = map lift_view c.in_ok-lifts.lifts in
    lifts_written all given here (lifts_view (record { table = c.in_ok-table.table; builtin = c.in_ok-table.builtin; lifts = c.in_ok-lifts.lifts })) c.in_ok-table.ensures.table c.in_ok-table.ensures.builtin
    (subst (λ (fs : List Form). Each WritesLift fs lifts) rest c.in_ok-lifts.ensures.lifts) c.in_ok-lifts.ensures.differ
    (let few = c.in_ok-lifts.ensures.few in let n = length-map c.in_ok-lifts.lifts lift_view in (omega (arith, n, few), omega (arith, n, few)))
