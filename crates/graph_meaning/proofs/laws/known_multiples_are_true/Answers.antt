use Rattle.graph_meaning.proofs.Known.{class_times, sum_times_of}
use Rattle.graph_meaning.proofs.laws.known_multiples_are_true.Goals as goal

pub returns : goal.returns
returns c =
    let bits = c.words_have_bits.ensures.byte_mask in
    record {
      class = λ g world value class n is holds l. class_times bits g world value is holds class n l;
      sum = λ g world value n x k is holds e. sum_times_of bits g world value is holds n x k e;
    }
