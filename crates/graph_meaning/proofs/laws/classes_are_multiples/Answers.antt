use Rattle.graph_meaning.proofs.Known.{same_multiples}
use Rattle.graph_meaning.proofs.Shown.{few, one_multiple}
use Rattle.graph_meaning.proofs.Sound.{sound}
use Rattle.graph_meaning.proofs.laws.classes_are_multiples.Goals as goal

pub returns : goal.returns
returns c =
    record {
      shown = λ rows world value class n holds h. sound c.words_have_bits.ensures.byte_mask rows world value holds h;
      few = λ rows class n h. few rows h;
      one = one_multiple;
      one_list = same_multiples;
    }
