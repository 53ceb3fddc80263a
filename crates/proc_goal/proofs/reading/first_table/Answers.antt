use Rattle.std.proofs.Common.{codes, sym, ap, ◌∙◌}
use Rattle.std.specs.Option.{option_copied}
use Rattle.forms.specs.Forms.{sexp_form}
use Rattle.proc_goal.specs.ProcReading.{absent, there}
use Rattle.proc_goal.proofs.Slices.{first_form, nothing_first, other_first}
use Rattle.proc_goal.proofs.reading.first_table.Goals as goal

pub returns-in_default-clause-table : goal.returns-in_default-clause-table
returns-in_default-clause-table c =
    absent (nothing_first c.args.text.now (codes "machine") c.args.forms.now (sym c.first.ensures.value ∙ ap option_copied c.in_default.is))

pub returns-then-not-has_head-clause-table : goal.returns-then-not-has_head-clause-table
returns-then-not-has_head-clause-table c =
    absent
    (other_first c.args.text.now (codes "machine") c.args.forms.now c.in-Some.form.now (sym c.first.ensures.value ∙ ap option_copied c.in-Some.is)
    (sym c.has_head.ensures ∙ c.if-not-has_head.true))

pub returns-clause-table : goal.returns-clause-table
returns-clause-table c =
    let text = c.args.text.now in
    there (sexp_form text c.in-Some.form.now) (first_form text c.args.forms.now c.in-Some.form.now (sym c.first.ensures.value ∙ ap option_copied c.in-Some.is)) (sym c.has_head.ensures ∙ c.if-not-has_head.false)
    c.in_ok-read.ensures.table c.in_ok-read.ensures.clear
