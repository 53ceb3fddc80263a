use Rattle.std.proofs.Common.{◌∙◌, sym}
use Rattle.denali_cli.proofs.Decided.{decided_as}
use Rattle.denali_cli.proofs.decide.decide.Goals as goal

pub returns-clause-decided : goal.returns-clause-decided
returns-clause-decided g c = decided_as _ _ (sym c.in-Some.is ∙ c.in_ok-command.ensures.value) c.work.result _ _ c.work.ensures.decided
