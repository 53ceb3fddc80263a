use Rattle.schedule_meaning.proofs.Ordered.{fits_permuted}
use Rattle.schedule_meaning.proofs.laws.fits_in_any_order.Goals as goal

pub returns : goal.returns
returns c g table allocation k ls ms same fits = fits_permuted g table allocation k ls ms same fits
