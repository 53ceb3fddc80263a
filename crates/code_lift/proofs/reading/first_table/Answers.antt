use Rattle.std.proofs.Common.{sym, ap, ◌∙◌}
use Rattle.std.specs.Option.{option_copied}
use Rattle.forms.specs.Forms.{sexp_form}
use Rattle.goal_reader.proofs.Heads.{part_form}
use Rattle.code_lift.specs.LiftReading.{no_machine, one_machine}
use Rattle.code_lift.proofs.SliceForms.{no_first, other_head}
use Rattle.code_lift.proofs.reading.first_table.Goals as goal

pub returns-in_default-clause-table : goal.returns-in_default-clause-table
returns-in_default-clause-table c = no_machine (no_first c.args.text.now c.args.forms.now (sym c.first.ensures.value ∙ ap option_copied c.in_default.is))

pub returns-then-not-has_head-clause-table : goal.returns-then-not-has_head-clause-table
returns-then-not-has_head-clause-table c =
    no_machine (other_head c.args.text.now c.args.forms.now c.in-Some.form.now (sym c.first.ensures.value ∙ ap option_copied c.in-Some.is) (sym c.has_head.ensures ∙ c.if-not-has_head.true))

pub returns-clause-table : goal.returns-clause-table
returns-clause-table c =
    one_machine (sexp_form c.args.text.now c.in-Some.form.now) (part_form c.args.text.now c.args.forms.now 0 c.in-Some.form.now (sym c.first.ensures.value ∙ ap option_copied c.in-Some.is))
    (sym c.has_head.ensures ∙ c.if-not-has_head.false) c.in_ok-read.ensures.table
