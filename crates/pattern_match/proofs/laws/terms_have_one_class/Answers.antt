use Rattle.pattern_match.proofs.Walking.{one_class, one_classes}
use Rattle.pattern_match.proofs.Matching.{class_has}
use Rattle.pattern_match.proofs.laws.terms_have_one_class.Goals as goal

pub returns : goal.returns
returns c = record {
  one = λ g places t x y apart h k. one_class g apart places h k;
  each = λ g places ts xs ys apart h k. one_classes g apart places h k;
  has = λ g places t x all h. class_has g places t all h;
}
