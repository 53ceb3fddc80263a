use Rattle.std.proofs.Common.{◌≡◌, All, ℕ, List, length, sym, ◌∙◌, ap, subst}
use Rattle.std.proofs.lemmas.Result.{err_from_is_err_and}
use Rattle.text_core.specs.Faults.{IsFirst}
use Rattle.text_core.specs.Sexps.{sexp_trees}
use Rattle.text_core.specs.declared.faults.Kind.{Kind}
use Rattle.text_core.specs.declared.sexps.Sexp.{Sexp}
use Rattle.forms.specs.Forms.{Form, Forms, Stand, forms_of, forms_from, forms_list, sexp_forms}
use Rattle.forms.specs.Reading.{IsFirstReadFault, IsSexpOf}
use Rattle.forms.proofs.Told.{told_as}
use Rattle.goal_reader.proofs.TextEnd.{forms_map, forms_are}
use Rattle.proc_goal.specs.ProcGrammar.{IsFirstProcFault, ReadsProc, WritesProcText, in_passes, in_forms}
use Rattle.proc_goal.specs.ProcRoles.{IsProcTextFault}
use Rattle.proc_goal.specs.Views.{proc_view}
use Rattle.proc_goal.specs.declared.procs.Proc.{Proc}
use Rattle.proc_goal.proofs.ProcLaws.{err_as, no_proc_fault, ok_as}
use Rattle.proc_goal.proofs.reading.read_text.Goals as goal

pub returns-in_err-forms-clause-fault : goal.returns-in_err-forms-clause-fault
returns-in_err-forms-clause-fault c =
    let p = err_from_is_err_and c.from_residual.result c.from_residual.ensures.1 in
    rw (p.1, p.2)
    (told_as (IsFirstReadFault c.args.bytes.now) (IsFirstProcFault c.args.bytes.now) (λ p k f. in_passes f) c.in_err-forms.field-0.0 c.in_err-forms.ensures.fault)

pub read_forms-requires : goal.read_forms-requires
read_forms-requires c =
    let text = c.args.bytes.now in
    let sexps = c.in_ok-forms.forms.items in
    let same = sym c.deref.ensures.value in
    record {
      of = subst (λ (xs : List Sexp). All (IsSexpOf text) xs) same c.in_ok-forms.ensures.each;
      stand = subst (λ (xs : List Sexp). Stand 0 (length text) (forms_from (sexp_forms text xs))) same
          (subst (λ (fs : Forms). Stand 0 (length text) fs) (forms_map text sexps) (c.one_reading.ensures.stand text (sexp_trees sexps) c.in_ok-forms.ensures.trees));
      small = c.requires;
    }

pub returns-clause-proc : goal.returns-clause-proc
returns-clause-proc c =
    let text = c.args.bytes.now in
    let sexps = c.in_ok-forms.forms.items in
    let same : sexp_forms text c.deref.result.now ≡ forms_list (forms_of text (sexp_trees sexps)) = ap (sexp_forms text) c.deref.ensures.value ∙ sym (forms_are text sexps) in
    ok_as (λ (p : Proc). WritesProcText (sexp_forms text c.deref.result.now) (proc_view p)) (λ (p : Proc). ReadsProc text (proc_view p))
    (λ p w. record { trees = sexp_trees sexps; has = c.in_ok-forms.ensures.trees; written = subst (λ (fs : List Form). WritesProcText fs (proc_view p)) same w }) c.read_forms.result c.read_forms.ensures.written

pub returns-clause-clear : goal.returns-clause-clear
returns-clause-clear c =
    let text = c.args.bytes.now in
    let sexps = c.in_ok-forms.forms.items in
    let same : sexp_forms text c.deref.result.now ≡ forms_list (forms_of text (sexp_trees sexps)) = ap (sexp_forms text) c.deref.ensures.value ∙ sym (forms_are text sexps) in
    let None : List Form → Type 0 = λ fs. (place : ℕ) (kind : Kind) → IsProcTextFault (length text) fs place kind → ⊥ in
    ok_as (λ (p : Proc). None (sexp_forms text c.deref.result.now)) (λ (p : Proc). (place : ℕ) (kind : Kind) → IsFirstProcFault text place kind → ⊥)
    (λ p clear. no_proc_fault text (c.one_reading.ensures.trees text) (c.one_reading.ensures.apart text) (sexp_trees sexps) c.in_ok-forms.ensures.trees (subst None same clear)) c.read_forms.result c.read_forms.ensures.clear

pub returns-clause-fault : goal.returns-clause-fault
returns-clause-fault c =
    let text = c.args.bytes.now in
    let sexps = c.in_ok-forms.forms.items in
    let same : sexp_forms text c.deref.result.now ≡ forms_list (forms_of text (sexp_trees sexps)) = ap (sexp_forms text) c.deref.ensures.value ∙ sym (forms_are text sexps) in
    err_as (IsFirst (IsProcTextFault (length text) (sexp_forms text c.deref.result.now))) (IsFirstProcFault text)
    (λ p k f. in_forms (sexp_trees sexps) c.in_ok-forms.ensures.trees (subst (λ (fs : List Form). IsFirst (IsProcTextFault (length text) fs) p k) same f)) c.read_forms.result c.read_forms.ensures.fault
