use Rattle.goal_meaning.proofs.Expanding.{each_let, term_closed, assumes_closed, has_closed_guard, sets_closed}
use Rattle.goal_meaning.proofs.laws.expanded_terms_are_sorted.Goals as goal

pub returns : goal.returns
returns c = record {
  lets = λ declared g is. each_let declared g is;
  terms = λ declared g sort t is h. term_closed declared g is sort t h;
  assumes = λ declared g is. assumes_closed declared g is;
  guard = λ declared g is. has_closed_guard declared g is;
  sets = λ declared g is. sets_closed declared g is;
}
