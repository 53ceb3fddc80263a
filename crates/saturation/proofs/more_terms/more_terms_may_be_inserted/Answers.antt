use Rattle.saturation.proofs.MoreTerms.{with_more, built_already, class_of_built, class_beside, still_grown, still_stands}
use Rattle.saturation.proofs.Starting.{inserted_graph}
use Rattle.saturation.proofs.StartSteps.{inserted_append}
use Rattle.saturation.proofs.more_terms.more_terms_may_be_inserted.Goals as goal

pub returns : goal.returns
returns c = record {
  grown = λ added present terms equal g new is inserted. still_grown added present terms equal g new is inserted;
  graph = λ terms g new is inserted. inserted_graph inserted is;
  stand = λ names added equal kept terms g new is sorted inserted.
      still_stands added kept terms equal g new is inserted c.meanings_are_in_range.ensures.values names kept sorted;
  derived = λ added present terms equal j t u. with_more added present terms equal;
  there = λ t c g is. built_already g is;
  class = λ t c g new is b. class_of_built b is;
  others = λ t other c d g new b h. class_beside b h;
  both = λ terms more g h new a b. inserted_append a b;
}
