use Rattle.run_texts.proofs.Outcomes.{read_by, refused_by}
use Rattle.run_texts.proofs.reading.read.Goals as goal

pub returns-clause-read : goal.returns-clause-read
returns-clause-read c =
    let laws = c.one_program.ensures in
    read_by c.args.text.now (laws.program c.args.text.now) (laws.apart c.args.text.now) (laws.first c.args.text.now) c.program.result c.program.ensures.program c.program.ensures.fault

pub returns-clause-refused : goal.returns-clause-refused
returns-clause-refused c =
    let laws = c.one_program.ensures in
    refused_by c.args.text.now (laws.program c.args.text.now) (laws.apart c.args.text.now) (laws.first c.args.text.now) c.program.result c.program.ensures.program c.program.ensures.fault
