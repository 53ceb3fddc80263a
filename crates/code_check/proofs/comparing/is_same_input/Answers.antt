use Rattle.saturation.specs.GoalTerms.{input_term}
use Rattle.code_check.proofs.Comparisons.{tells}
use Rattle.code_check.proofs.comparing.is_same_input.Goals as goal

pub returns : goal.returns
returns c = λ ts memory are.
    tells c.terms_have_one_class.ensures.one c.args.graph.now are.graph (ts.registers c.args.register) (input_term c.args.register)
    c.find_register-class.result c.find_leaf-wanted.result c.is_one.result (c.find_register-class.ensures ts memory are)
    c.find_leaf-wanted.ensures c.is_one.ensures
