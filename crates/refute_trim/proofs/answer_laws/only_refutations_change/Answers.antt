use Rattle.refute_trim.proofs.SplitLines.{only_refutations}
use Rattle.refute_trim.proofs.answer_laws.only_refutations_change.Goals as goal

pub returns : goal.returns
returns c = only_refutations
