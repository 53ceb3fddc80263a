use Rattle.proc_goal.proofs.ProcLaws.{one_proc_fault, reads_apart, reads_once}
use Rattle.proc_goal.proofs.laws.procs_have_one_reading.Goals as goal

pub returns-clause-once : goal.returns-clause-once
returns-clause-once c = λ text p q a b. reads_once text (c.one_reading.ensures.trees text) (c.one_reading.ensures.apart text) c.terms_have_one_reading.ensures.once c.one_table.ensures.once p q a b

pub returns-clause-apart : goal.returns-clause-apart
returns-clause-apart c = λ text p place kind a f.
    reads_apart text (c.one_reading.ensures.trees text) (c.one_reading.ensures.apart text) c.terms_have_one_reading.ensures.clear c.one_table.ensures.clear p place kind a f

pub returns-clause-first : goal.returns-clause-first
returns-clause-first c = λ text place other kind another f g.
    one_proc_fault text (c.one_reading.ensures.trees text) (c.one_reading.ensures.apart text) (c.one_reading.ensures.first text) place other kind another f g
