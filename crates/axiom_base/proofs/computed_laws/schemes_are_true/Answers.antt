use Rattle.std.proofs.lemmas.List.Elements.{All-weaker}
use Rattle.axiom_base.specs.Equations.{equations}
use Rattle.axiom_base.specs.Rewrites.{IsRule, IsTrueIn, IsUsable}
use Rattle.axiom_base.proofs.AllSchemes.{of_each, rule_usable, weight_is}
use Rattle.axiom_base.proofs.computed_laws.schemes_are_true.Goals as goal

pub returns : goal.returns
returns c = record {
  true_rules = λ world names added r h is.
      of_each (IsTrueIn world names) (c.equations_are_true.ensures.true_rows world names)
      (c.computed_rules_are_true.ensures.true_rules world names)
      (λ op cs words count. c.folds_are_true.ensures.true_rules world names op cs count) added h r is;
  usable = λ added r h is.
      of_each IsUsable (All-weaker IsRule IsUsable rule_usable equations c.equations_are_true.ensures.rules)
      (λ kind cs given is. c.computed_rules_are_true.ensures.usable kind cs given is.count is.first is.second) c.folds_are_true.ensures.usable added (All-weaker IsRule IsUsable rule_usable added.axioms h) r is;
  rules = rule_usable;
  weights = weight_is;
}
