use Rattle.std.proofs.Common.{◌++◌, ap, ◌∙◌}
use Rattle.axiom_base.specs.Schemes.{AddedRules, calc_kinds}
use Rattle.saturation.proofs.rule_lists.Rules.kinds.Goals as goal

pub returns : goal.returns
returns c = c.as_slice.ensures ∙ c.self.invariant.1 ∙ ap (λ (r : AddedRules). calc_kinds ++ r.kinds) c.self.view_is
