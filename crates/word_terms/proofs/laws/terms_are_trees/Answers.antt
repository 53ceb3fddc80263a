use Rattle.word_terms.proofs.Trees.{tree_of_variable, tree_of_application, value-substituted}
use Rattle.word_terms.proofs.laws.terms_are_trees.Goals as goal

pub returns : goal.returns
returns g c = record {
  variables = λ n. tree_of_variable n;
  applications = λ op operands. tree_of_application op operands;
  substitutions = λ meaning values trees t. value-substituted meaning values trees t;
}
