use Rattle.cycle_encoding.proofs.OneList.{one-list}
use Rattle.cycle_encoding.proofs.laws.each_encoding_has_one_list.Goals as goal

pub returns : goal.returns
returns c = one-list
