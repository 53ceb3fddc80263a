use Rattle.forms.specs.Forms.{sexp_form}
use Rattle.machine_table.proofs.Written.{given}
use Rattle.machine_table.proofs.reading.read.Goals as goal

pub returns-clause-read : goal.returns-clause-read
returns-clause-read c =
    given (sexp_form c.args.text.now c.args.form.now) c.read_table.result c.read_table.ensures.table c.read_table.ensures.fault
