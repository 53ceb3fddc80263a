use Rattle.schedule_meaning.proofs.Deciding.{decided}
use Rattle.schedule_meaning.proofs.Longer.{fits_longer, fits_longer_in_block}
use Rattle.schedule_meaning.proofs.Rules.{broken_does_not_fit, first_broken_once}
use Rattle.schedule_meaning.proofs.laws.schedules_fit_or_break.Goals as goal

pub returns : goal.returns
returns c = record {
  either = decided;
  apart = λ g table allocation k ls i r f b. broken_does_not_fit g table allocation k ls i r b f;
  once = λ g table allocation k ls i j r s b d. first_broken_once g table allocation k ls i r j s b d;
  longer = fits_longer;
  longer_in_block = fits_longer_in_block;
}
