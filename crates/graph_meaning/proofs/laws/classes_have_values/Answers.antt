use Rattle.graph_meaning.proofs.Values.{constant_is, input_value, sort_value}
use Rattle.graph_meaning.proofs.laws.classes_have_values.Goals as goal

pub returns : goal.returns
returns c =
    record {
      constant = λ g world value class n h. constant_is g world value h class n;
      input = λ g world value class register h. input_value g world value h class register;
      sort = λ g world value sort class h. sort_value g world value h sort class;
    }
