use Rattle.std.proofs.Common.{refl}
use Rattle.std.proofs.lemmas.Result.{err_from_is_err_and}
use Rattle.text_core.specs.Faults.{IsFirst}
use Rattle.forms.specs.Forms.{sexp_form}
use Rattle.forms.proofs.Told.{told_as}
use Rattle.machine_table.specs.Roles.{IsMachineFault}
use Rattle.goal_reader.specs.Roles.{a_machine}
use Rattle.goal_reader.specs.TextFaults.{IsFormFault}
use Rattle.goal_reader.specs.TextDrafts as drafts
use Rattle.goal_reader.proofs.TextForms.{machine_first, machine_clear}
use Rattle.goal_reader.proofs.texts.add_table.Goals as goal

pub returns-in_err-table-clause-fault : goal.returns-in_err-table-clause-fault
returns-in_err-table-clause-fault c =
    let p = err_from_is_err_and c.from_residual.result c.from_residual.ensures.1 in
    let form = sexp_form c.args.text.now c.args.form.now in
    rw (p.1, p.2)
    (told_as (IsFirst (IsMachineFault form)) (IsFirst (IsFormFault a_machine form)) (machine_first form) c.in_err-table.field-0.0 c.in_err-table.ensures.fault)

pub returns-clause-next : goal.returns-clause-next
returns-clause-next c = drafts.machine c.in_ok-table.table c.in_ok-table.ensures.table refl

pub returns-clause-clear : goal.returns-clause-clear
returns-clause-clear c = machine_clear (sexp_form c.args.text.now c.args.form.now) c.in_ok-table.ensures.clear
