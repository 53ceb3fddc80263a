use Rattle.answer_texts.specs.AnswerParts.{AnswerPartFault}
use Rattle.answer_texts.specs.ReadAnswers.{IsAnswerFault, of_answer}
use Rattle.answer_texts.proofs.PartsFaults.{fault_of}
use Rattle.answer_texts.proofs.reading.answer.Goals as goal

pub returns-clause-fault : goal.returns-clause-fault
returns-clause-fault c =
    fault_of (AnswerPartFault c.in_ok-text.text 0) (IsAnswerFault c.args.text.now)
    (λ place kind h. of_answer c.in_ok-text.ensures.lines h) c.answer_in.result c.answer_in.ensures.fault
