use Rattle.schedule_meaning.proofs.Unpinned.{plain_where_fits, fits_where_plain, plain_rows, plain_groups}
use Rattle.schedule_meaning.proofs.laws.pins_may_be_absent.Goals as goal

pub returns : goal.returns
returns c = record {
  fits = λ g table allocation k ls h.
      ((λ f. plain_where_fits g h table allocation k ls f), λ p. fits_where_plain g h table allocation k ls p.0 p.1);
  rows = λ g row h. plain_rows g h row;
  groups = λ g l h. plain_groups g h l;
}
