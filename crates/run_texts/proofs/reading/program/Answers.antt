use Rattle.run_texts.proofs.Outcomes.{program_ok, program_fault}
use Rattle.run_texts.proofs.reading.program.Goals as goal

pub returns-clause-program : goal.returns-clause-program
returns-clause-program c = program_ok c.args.text.now c.in_ok-text.text c.in_ok-text.ensures.lines c.run_of.result c.run_of.ensures.ok

pub returns-clause-fault : goal.returns-clause-fault
returns-clause-fault c = program_fault c.args.text.now c.in_ok-text.text c.in_ok-text.ensures.lines c.run_of.result c.run_of.ensures.fault
