use Rattle.std.proofs.Common.{ap, ◌∙◌}
use Rattle.axiom_base.specs.Schemes.{AddedRules}
use Rattle.saturation.proofs.rule_lists.Rules.axioms.Goals as goal

pub returns : goal.returns
returns c = c.as_slice.ensures ∙ ap (λ (r : AddedRules). r.axioms) c.self.view_is
