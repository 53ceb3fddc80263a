use Rattle.refute_trim.proofs.Alone.{one_way}
use Rattle.refute_trim.proofs.laws.lines_are_trimmed_in_one_way.Goals as goal

pub returns : goal.returns
returns c = one_way
