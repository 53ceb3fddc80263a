use Rattle.std.proofs.Common.{◌≡◌, List, length, sym, ◌∙◌, ap, refl, subst}
use Rattle.std.proofs.lemmas.Result.{err_from_is_err_and}
use Rattle.text_core.specs.Faults.{IsFirst}
use Rattle.text_core.specs.Sexps.{sexp_trees}
use Rattle.text_core.specs.declared.sexps.Sexp.{Sexp}
use Rattle.forms.specs.Forms.{Form, Forms, Stand, forms_of, forms_from, forms_list, sexp_forms}
use Rattle.forms.specs.Reading.{IsFirstReadFault, IsSexpOf}
use Rattle.forms.proofs.Told.{told_as}
use Rattle.std.proofs.Common.{All}
use Rattle.goal_meaning.specs.declared.goals.Input.{Input}
use Rattle.goal_reader.specs.Grammar.{IsFirstTextFault, WritesText, in_passes, in_forms}
use Rattle.goal_reader.specs.Roles.{IsTextFault}
use Rattle.goal_meaning.specs.Views.{input_view}
use Rattle.goal_reader.proofs.TextEnd.{no_text_fault, forms_map, forms_are, text_written}
use Rattle.goal_reader.proofs.reading.read_text.Goals as goal

pub returns-in_err-forms-clause-fault : goal.returns-in_err-forms-clause-fault
returns-in_err-forms-clause-fault c =
    let p = err_from_is_err_and c.from_residual.result c.from_residual.ensures.1 in
    rw (p.1, p.2)
    (told_as (IsFirstReadFault c.args.bytes.now) (IsFirstTextFault c.args.bytes.now) (λ p k f. in_passes f) c.in_err-forms.field-0.0 c.in_err-forms.ensures.fault)

pub read_forms-requires : goal.read_forms-requires
read_forms-requires c =
    let text = c.args.bytes.now in
    let sexps = c.in_ok-forms.forms.items in
    let same = sym c.deref.ensures.value in
    record {
      of = subst (λ (xs : List Sexp). All (IsSexpOf text) xs) same c.in_ok-forms.ensures.each;
      stand = subst (λ (xs : List Sexp). Stand 0 (length text) (forms_from (sexp_forms text xs))) same
          (subst (λ (fs : Forms). Stand 0 (length text) fs) (forms_map text sexps) (c.one_reading.ensures.stand text (sexp_trees sexps) c.in_ok-forms.ensures.trees));
      small = c.requires;
    }

pub returns-in_err-draft-clause-fault : goal.returns-in_err-draft-clause-fault
returns-in_err-draft-clause-fault c =
    let p = err_from_is_err_and c.from_residual-in_err-draft.result c.from_residual-in_err-draft.ensures.1 in
    let text = c.args.bytes.now in
    let sexps = c.in_ok-forms.forms.items in
    let same : sexp_forms text c.deref.result.now ≡ forms_list (forms_of text (sexp_trees sexps)) = ap (sexp_forms text) c.deref.ensures.value ∙ sym (forms_are text sexps) in
    rw (p.1, p.2)
    (told_as (IsFirst (IsTextFault (length text) (sexp_forms text c.deref.result.now))) (IsFirstTextFault text)
    (λ p k f. in_forms (sexp_trees sexps) c.in_ok-forms.ensures.trees (subst (λ (fs : List Form). IsFirst (IsTextFault (length text) fs) p k) same f)) c.in_err-draft.field-0.0 c.in_err-draft.ensures.fault)

pub returns-clause-input : goal.returns-clause-input
returns-clause-input c =
    let text = c.args.bytes.now in
    let sexps = c.in_ok-forms.forms.items in
    let d = c.in_ok-draft.draft in
    let same : sexp_forms text c.deref.result.now ≡ forms_list (forms_of text (sexp_trees sexps)) = ap (sexp_forms text) c.deref.ensures.value ∙ sym (forms_are text sexps) in
    let i : Input = record { table = c.in_ok-table.table; builtin = c.in_ok-table.builtin; ops = d.declared; axioms = d.axioms; goals = d.goals } in
    record {
      trees = sexp_trees sexps;
      has = c.in_ok-forms.ensures.trees;
      written = subst (λ (fs : List Form). WritesText fs (input_view i)) same
          (text_written (sexp_forms text c.deref.result.now) d i c.in_ok-draft.ensures.written c.in_ok-draft.ensures.keeps c.in_ok-draft.ensures.some c.in_ok-table.ensures.table c.in_ok-table.ensures.builtin refl refl refl);
    }

pub returns-clause-clear : goal.returns-clause-clear
returns-clause-clear c =
    let text = c.args.bytes.now in
    let sexps = c.in_ok-forms.forms.items in
    let same : sexp_forms text c.deref.result.now ≡ forms_list (forms_of text (sexp_trees sexps)) = ap (sexp_forms text) c.deref.ensures.value ∙ sym (forms_are text sexps) in
    no_text_fault text (c.one_reading.ensures.trees text) (c.one_reading.ensures.apart text) (sexp_trees sexps) c.in_ok-forms.ensures.trees
    (λ place kind f. c.in_ok-draft.ensures.clear place kind (subst (λ (fs : List Form). IsTextFault (length text) fs place kind) (sym same) f))
