use Rattle.std.proofs.Common.{◌∙◌}
use Rattle.saturation.proofs.rule_lists.Rules.equations.Goals as goal

pub returns : goal.returns
returns c = c.as_slice.ensures ∙ c.self.invariant.0
