use Rattle.word_terms.specs.Tree.{substituted}
use Rattle.word_terms.specs.View.{tree_of}
use Rattle.code_check.proofs.Comparisons.{tells}
use Rattle.code_check.proofs.comparing.has_term.Goals as goal

pub returns : goal.returns
returns c = λ es ts memory zip are.
    tells c.terms_have_one_class.ensures.one c.args.graph.now are.graph (ts.registers c.args.register) (substituted es (tree_of c.args.term.now))
    c.find_register-class.result c.in_ok-wanted.wanted c.is_one.result (c.find_register-class.ensures ts memory are)
    (c.in_ok-wanted.ensures es zip) c.is_one.ensures
