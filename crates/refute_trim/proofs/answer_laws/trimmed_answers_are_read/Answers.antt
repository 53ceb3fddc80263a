use Rattle.refute_trim.proofs.Readable.{trimmed_is_read}
use Rattle.refute_trim.proofs.answer_laws.trimmed_answers_are_read.Goals as goal

pub returns : goal.returns
returns c = trimmed_is_read c.printed_answers_are_read.ensures.read c.printed_answers_are_read.ensures.printable
