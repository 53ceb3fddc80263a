use Rattle.goal_meaning.specs.Names.{declared_name}
use Rattle.saturation.proofs.AxiomRules.{are_rules, rules_hold}
use Rattle.saturation.proofs.goal_laws.axioms_make_rules_true.Goals as goal

pub returns-clause-true_rules : goal.returns-clause-true_rules
returns-clause-true_rules c = λ library input goal world is holds.
    rules_hold library (c.library_axioms_are_well_formed.ensures.asked library) input goal world is holds
    (c.library_axioms_hold.ensures.asked library input.ops world)
    (c.library_equations_are_true.ensures.true_rules world (declared_name input.ops) library)

pub returns-clause-are_rules : goal.returns-clause-are_rules
returns-clause-are_rules c = λ library input is.
    are_rules library (c.library_axioms_are_well_formed.ensures.asked library) input is (c.library_equations_are_true.ensures.rules library)
