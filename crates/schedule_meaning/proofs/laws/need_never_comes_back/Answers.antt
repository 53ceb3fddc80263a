use Rattle.schedule_meaning.proofs.LiveRanges.{needed_before}
use Rattle.schedule_meaning.proofs.laws.need_never_comes_back.Goals as goal

pub returns : goal.returns
returns c = needed_before
