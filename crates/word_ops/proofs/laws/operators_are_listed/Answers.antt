use Rattle.word_ops.proofs.NameSearch.{same_name}
use Rattle.word_ops.proofs.Numbers.{each_is_listed, numbers_are_places}
use Rattle.word_ops.proofs.laws.operators_are_listed.Goals as goal

pub returns : goal.returns
returns c = record {
  each = each_is_listed;
  numbers = numbers_are_places;
  names = same_name;
}
