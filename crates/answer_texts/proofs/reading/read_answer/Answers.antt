use Rattle.answer_texts.proofs.PartsOutcomes.{read_by, refused_by}
use Rattle.answer_texts.proofs.reading.read_answer.Goals as goal

pub returns-clause-read : goal.returns-clause-read
returns-clause-read c =
    let laws = c.one_answer.ensures in
    read_by c.args.text.now (laws.answer c.args.text.now) (laws.apart c.args.text.now) (laws.first c.args.text.now)
    c.answer.result c.answer.ensures.answer c.answer.ensures.fault

pub returns-clause-refused : goal.returns-clause-refused
returns-clause-refused c =
    let laws = c.one_answer.ensures in
    refused_by c.args.text.now (laws.answer c.args.text.now) (laws.apart c.args.text.now) (laws.first c.args.text.now)
    c.answer.result c.answer.ensures.answer c.answer.ensures.fault
