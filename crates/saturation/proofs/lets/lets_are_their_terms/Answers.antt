use Rattle.saturation.proofs.Classes.{at_instance, from_instance}
use Rattle.saturation.proofs.LetTerms.{have_classes}
use Rattle.saturation.proofs.lets.lets_are_their_terms.Goals as goal

pub returns : goal.returns
returns c = λ g es lets t class is z below. (
  λ h. at_instance g lets es (have_classes g es lets z) h,
  λ h. from_instance g lets es (have_classes g es lets z) is.distinct t below h,
)
