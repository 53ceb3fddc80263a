use Rattle.pattern_match.proofs.MatchSorts.{match_has, match_class, match_places, fold_row}
use Rattle.pattern_match.proofs.laws.matches_have_sorts.Goals as goal

pub returns : goal.returns
returns c =
    let s = c.classes_have_one_sort.ensures in
    record {
      has = match_has;
      class = λ g r places x u is m. match_class s.rows s.operands s.constants g is r u places x m;
      places = λ g r places x n u is m l. match_places s.rows s.operands s.constants g is r u places x m n l;
      folds = fold_row;
    }
