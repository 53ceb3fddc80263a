use Rattle.std.proofs.lemmas.Bool.{false≢true}
use Rattle.refutation_check.specs.Marked.{marked}
use Rattle.refutation_check.proofs.Telling.{unit-not_false, open-not_false}
use Rattle.refutation_check.proofs.values.is_false_clause.Goals as goal

pub returns-in-Unit : goal.returns-in-Unit
returns-in-Unit c = ((λ is. absurd (false≢true is)), (λ f. absurd (unit-not_false (marked c.args.line c.args.marks.now) c.args.clause.now _ c.in-Unit.ensures f)))

pub returns-in-Open : goal.returns-in-Open
returns-in-Open c = ((λ is. absurd (false≢true is)), (λ f. absurd (open-not_false (marked c.args.line c.args.marks.now) c.args.clause.now c.in-Open.ensures f)))
