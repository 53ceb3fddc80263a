use Rattle.refute_trim.proofs.TrimmedAgain.{text_again}
use Rattle.refute_trim.proofs.answer_laws.trimmed_texts_stay.Goals as goal

pub returns : goal.returns
returns c = text_again c.one_answer.ensures.answer c.trimmed_answers_are_read.ensures
