use Rattle.saturation.specs.GoalTerms.{assumed_pairs, rules_of}
use Rattle.code_check.specs.Verified.{compared_terms}
use Rattle.code_check.proofs.OneAnswer.{one_answer}
use Rattle.code_check.proofs.laws.codes_have_one_answer.Goals as goal

pub returns : goal.returns
returns c = record {
  one = λ input goal code rounds nodes library x y is_input fits right other.
      let instrs = fits.instrs in
      let present = compared_terms goal instrs in
      let rules = c.axioms_make_rules_true.ensures.are_rules library input is_input in
      one_answer input goal instrs rounds nodes library
      (λ i j. c.rounds_end_once.ensures.not_before (rules_of library input) present (assumed_pairs goal) rounds nodes i j rules)
      (λ g j stop. c.rounds_end_once.ensures.halts (rules_of library input) present (assumed_pairs goal) g rounds nodes j stop)
      (λ g h j. c.grown_graphs_are_one.ensures.alike (rules_of library input) present (assumed_pairs goal) g h j)
      code x y (right instrs fits.is_code.decode) (other instrs fits.is_code.decode);
}
