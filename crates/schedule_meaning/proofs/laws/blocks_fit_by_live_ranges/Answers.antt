use Rattle.schedule_meaning.proofs.Longer.{block_fits_live}
use Rattle.schedule_meaning.proofs.laws.blocks_fit_by_live_ranges.Goals as goal

pub returns : goal.returns
returns c = block_fits_live
