use Rattle.std.proofs.Common.{◌≡◌, List, length, sym, ◌∙◌, ap, subst}
use Rattle.std.proofs.lemmas.Result.{err_from_is_err_and}
use Rattle.text_core.specs.Faults.{IsFirst}
use Rattle.text_core.specs.Sexps.{sexp_trees}
use Rattle.text_core.specs.declared.sexps.Sexp.{Sexp}
use Rattle.forms.specs.Forms.{Form, Forms, Stand, forms_of, forms_from, forms_list, sexp_forms}
use Rattle.forms.specs.Reading.{IsFirstReadFault}
use Rattle.forms.proofs.Told.{told_as}
use Rattle.goal_reader.proofs.TextEnd.{forms_map, forms_are}
use Rattle.code_lift.specs.LiftGrammar.{IsFirstLiftFault, ReadsLifts, WritesLifts, in_passes, in_forms}
use Rattle.code_lift.specs.LiftRoles.{IsLiftTextFault}
use Rattle.code_lift.specs.Views.{lifts_view}
use Rattle.code_lift.specs.declared.lifts.Lifts.{Lifts}
use Rattle.code_lift.proofs.LiftLaws.{given_as, refused_as}
use Rattle.code_lift.proofs.reading.read_text.Goals as goal

pub returns-in_err-forms-clause-fault : goal.returns-in_err-forms-clause-fault
returns-in_err-forms-clause-fault c =
    let p = err_from_is_err_and c.from_residual.result c.from_residual.ensures.1 in
    rw (p.1, p.2)
    (told_as (IsFirstReadFault c.args.bytes.now) (IsFirstLiftFault c.args.bytes.now) (λ p k f. in_passes f) c.in_err-forms.field-0.0 c.in_err-forms.ensures.fault)

pub read_forms-requires-clause-stand : goal.read_forms-requires-clause-stand
read_forms-requires-clause-stand c =
    let text = c.args.bytes.now in
    let sexps = c.in_ok-forms.forms.items in
    subst (λ (xs : List Sexp). Stand 0 (length text) (forms_from (sexp_forms text xs))) (sym c.deref.ensures.value)
    (subst (λ (fs : Forms). Stand 0 (length text) fs) (forms_map text sexps) (c.one_reading.ensures.stand text (sexp_trees sexps) c.in_ok-forms.ensures.trees))

pub returns-clause-lifts : goal.returns-clause-lifts
returns-clause-lifts c =
    let text = c.args.bytes.now in
    let sexps = c.in_ok-forms.forms.items in
    let same : sexp_forms text c.deref.result.now ≡ forms_list (forms_of text (sexp_trees sexps)) = ap (sexp_forms text) c.deref.ensures.value ∙ sym (forms_are text sexps) in
    given_as (λ (l : Lifts). WritesLifts (sexp_forms text c.deref.result.now) (lifts_view l)) (λ (l : Lifts). ReadsLifts text (lifts_view l))
    (λ l w. record { trees = sexp_trees sexps; has = c.in_ok-forms.ensures.trees; written = subst (λ (fs : List Form). WritesLifts fs (lifts_view l)) same w }) c.read_forms.result c.read_forms.ensures.written

pub returns-clause-fault : goal.returns-clause-fault
returns-clause-fault c =
    let text = c.args.bytes.now in
    let sexps = c.in_ok-forms.forms.items in
    let same : sexp_forms text c.deref.result.now ≡ forms_list (forms_of text (sexp_trees sexps)) = ap (sexp_forms text) c.deref.ensures.value ∙ sym (forms_are text sexps) in
    refused_as (IsFirst (IsLiftTextFault (length text) (sexp_forms text c.deref.result.now))) (IsFirstLiftFault text)
    (λ p k f. in_forms (sexp_trees sexps) c.in_ok-forms.ensures.trees (subst (λ (fs : List Form). IsFirst (IsLiftTextFault (length text) fs) p k) same f)) c.read_forms.result c.read_forms.ensures.fault
