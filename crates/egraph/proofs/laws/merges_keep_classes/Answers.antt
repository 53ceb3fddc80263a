use Rattle.egraph.proofs.Sorts.{read_again, merged_has}
use Rattle.egraph.proofs.laws.merges_keep_classes.Goals as goal

pub returns : goal.returns
returns g c = record {
  again = λ old a b new is m class l. read_again g.O.Operator.signature old is a b new m class l;
  has = λ old a b new m class h. merged_has old a b new m class h;
}
