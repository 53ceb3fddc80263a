use Rattle.std.proofs.Common.{List, ap₂, subst}
use Rattle.std.proofs.lemmas.Result.{err_from_is_err_and}
use Rattle.text_core.specs.Faults.{IsFirst, IsFaultBy}
use Rattle.forms.specs.Forms.{sexp_form}
use Rattle.forms.proofs.Told.{told_as}
use Rattle.goal_meaning.specs.declared.goals.Goal.{Goal}
use Rattle.goal_meaning.specs.declared.goals.DeclaredOp.{DeclaredOp}
use Rattle.goal_reader.specs.declared.texts.TextDraft.{TextDraft}
use Rattle.goal_reader.specs.Roles as roles
use Rattle.goal_reader.specs.Roles.{Shape, a_list, IsFaultAs}
use Rattle.goal_reader.specs.Drafts.{names_of_goals}
use Rattle.goal_reader.specs.Reading.{IsClear}
use Rattle.goal_reader.specs.TextFaults.{IsFormFault}
use Rattle.goal_reader.specs.TextDrafts as drafts
use Rattle.goal_reader.proofs.TextForms.{list_first, list_clear}
use Rattle.goal_reader.proofs.texts.add_goal.Goals as goal

pub returns-in_err-one-clause-fault : goal.returns-in_err-one-clause-fault
returns-in_err-one-clause-fault c =
    let p = err_from_is_err_and c.from_residual.result c.from_residual.ensures.1 in
    let form = sexp_form c.args.text.now c.args.form.now in
    let shape : Shape = roles.goal c.args.draft.declared (names_of_goals c.args.draft.goals) in
    rw (p.1, p.2)
    (told_as (IsFirst (IsFaultAs (a_list shape) form)) (IsFirst (IsFormFault (a_list shape) form)) (list_first shape form) c.in_err-one.field-0.0 (subst (λ (gs : List Goal). IsFaultBy (IsFirst (IsFaultAs (a_list (roles.goal c.args.draft.declared (names_of_goals gs))) form)) c.in_err-one.field-0.0) c.as_slice.ensures c.in_err-one.ensures.fault))

abbrev put : TextDraft → List DeclaredOp → List Goal → TextDraft
put d ops gs = record { table = d.table; declared = ops; axioms = d.axioms; goals = gs }

pub returns-clause-next : goal.returns-clause-next
returns-clause-next c = drafts.goal c.in_ok-one.one c.in_ok-one.ensures.goal (ap₂ (put c.args.draft) c.in_ok-one.ensures.declared c.in_ok-push.ensures.ok)

pub returns-clause-clear : goal.returns-clause-clear
returns-clause-clear c =
    let form = sexp_form c.args.text.now c.args.form.now in
    list_clear (roles.goal c.args.draft.declared (names_of_goals c.args.draft.goals)) form (subst (λ (gs : List Goal). IsClear (a_list (roles.goal c.args.draft.declared (names_of_goals gs))) form) c.as_slice.ensures c.in_ok-one.ensures.clear)
