use Rattle.refutation_check.specs.Marked.{marked}
use Rattle.refutation_check.proofs.Telling.{unit-not_false, open-not_unit}
use Rattle.refutation_check.proofs.values.unit_of.Goals as goal

pub returns-in-Falsified : goal.returns-in-Falsified
returns-in-Falsified c = λ l u. unit-not_false (marked c.args.line c.args.marks.now) c.args.clause.now l u c.in-Falsified.ensures

pub returns-in-Open : goal.returns-in-Open
returns-in-Open c = open-not_unit (marked c.args.line c.args.marks.now) c.args.clause.now c.in-Open.ensures
