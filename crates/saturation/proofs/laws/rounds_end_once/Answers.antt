use Rattle.saturation.proofs.AlikeNeeds.{none_before, halts_with}
use Rattle.saturation.proofs.laws.rounds_end_once.Goals as goal

pub returns : goal.returns
returns c = record {
  not_before = λ added present equal rounds nodes i j rules. none_before added (λ r. c.schemes_are_true.ensures.usable added r rules) present equal rounds nodes i j;
  halts = halts_with;
}
