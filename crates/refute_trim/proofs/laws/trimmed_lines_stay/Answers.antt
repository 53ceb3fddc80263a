use Rattle.refute_trim.proofs.Again.{again}
use Rattle.refute_trim.proofs.Hints.{all_but_last}
use Rattle.refute_trim.proofs.Refuting.{all_accepted}
use Rattle.refute_trim.proofs.laws.trimmed_lines_stay.Goals as goal

pub returns : goal.returns
returns c = record {
  stay = again;
  twice = λ f lines new more accepted trimmed. again f new more (all_accepted f lines new accepted trimmed) (all_but_last f lines new accepted trimmed);
}
