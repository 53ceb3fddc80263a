use Rattle.axiom_base.specs.Conditions.{IsCalc}
use Rattle.axiom_base.proofs.Giving.{some_from_match}
use Rattle.axiom_base.proofs.conditions.calc.Goals as goal

pub returns-clause-true_rule : goal.returns-clause-true_rule
returns-clause-true_rule c = some_from_match _ (IsCalc c.args.kind c.args.values.now) _ c.given.result (λ given is world names. c.computed_rules_are_true.ensures.true_rules world names c.args.kind c.args.values.now given is) c.given.ensures
