use Rattle.code_lift.proofs.LiftLaws.{one_lift_fault, reads_apart, reads_once}
use Rattle.code_lift.proofs.laws.lifts_have_one_reading.Goals as goal

pub returns-clause-once : goal.returns-clause-once
returns-clause-once c = λ text a b v w. reads_once text (c.one_reading.ensures.trees text) (c.one_reading.ensures.apart text) c.one_table.ensures.once a b v w

pub returns-clause-apart : goal.returns-clause-apart
returns-clause-apart c = λ text lifts place kind w f. reads_apart text (c.one_reading.ensures.trees text) (c.one_reading.ensures.apart text) c.one_table.ensures.clear lifts place kind w f

pub returns-clause-first : goal.returns-clause-first
returns-clause-first c = λ text place other kind another f g.
    one_lift_fault text (c.one_reading.ensures.trees text) (c.one_reading.ensures.apart text) (c.one_reading.ensures.first text) place other kind another f g
