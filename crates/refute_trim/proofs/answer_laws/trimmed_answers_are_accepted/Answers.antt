use Rattle.refute_trim.proofs.Checked.{still_accepted}
use Rattle.refute_trim.proofs.answer_laws.trimmed_answers_are_accepted.Goals as goal

pub returns : goal.returns
returns c = still_accepted
