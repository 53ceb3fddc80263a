-- Each is decided by computing.
use Rattle.std.proofs.Common.{refl}
use Rattle.machine_table.specs.Tables.{ev6}
use Rattle.register_assign.proofs.worked.worked_listing.Goals as goal

pub returns : goal.returns
unfolding ev6
returns c = record {
  words = refl;
  places = refl;
  sum_words = refl;
  sum_places = refl;
  step_words = refl;
  step_places = refl;
  exchange_words = refl;
  exchange_places = refl;
  chain_words = refl;
  chain_places = refl;
}
