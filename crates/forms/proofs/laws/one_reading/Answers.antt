use Rattle.forms.proofs.Unique.{one_forest, no_fault, one_fault, forest_stands, forest_is_of}
use Rattle.forms.proofs.laws.one_reading.Goals as goal

pub returns : goal.returns
returns c =
    let lexing = c.one_lexing.ensures in
    let parsing = c.one_parsing.ensures in
    record {
      trees = one_forest lexing.tokens parsing.trees;
      of = forest_is_of parsing.placed lexing.named parsing.atoms;
      stand = forest_stands parsing.placed;
      apart = no_fault lexing.tokens lexing.apart parsing.apart;
      first = one_fault lexing.tokens lexing.apart lexing.first parsing.first;
    }
