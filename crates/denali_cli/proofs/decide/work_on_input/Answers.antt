use Rattle.std.proofs.Common.{subst}
use Rattle.outside_io.specs.Taking.{TakesUpTo}
use Rattle.denali_cli.proofs.Decided.{decided_past}
use Rattle.denali_cli.proofs.decide.work_on_input.Goals as goal

pub returns-in-Err-TooLong-clause-decided : goal.returns-in-Err-TooLong-clause-decided
returns-in-Err-TooLong-clause-decided g c =
    decided_past c.args.command c.args.limit c.requires.limit c.too_long.result _ _
    c.too_long.ensures.ok
    (subst (TakesUpTo c.args.limit _ _) c.in-Err-TooLong.field-0-is c.in-Err-TooLong.ensures.refused)
