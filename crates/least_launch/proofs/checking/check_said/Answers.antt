use Rattle.std.proofs.Common.{subst, sym}
use Rattle.answer_check.specs.Verdicts.{IsVerdict}
use Rattle.cycle_encoding.proofs.Built.{if_ok}
use Rattle.least_launch.proofs.Judged.{plain_judged}
use Rattle.least_launch.proofs.checking.check_said.Goals as goal

pub check_held-requires-clause-sound : goal.check_held-requires-clause-sound
check_held-requires-clause-sound c =
    (c.args.encoding, sym c.allocation.ensures, c.in_ok-verdict.ensures.sound c.in-Holds.is)

pub returns-in-Holds : goal.returns-in-Holds
returns-in-Holds c =
    if_ok _ _ c.check_held.result
    (λ v judged. judged c.args.encoding (sym c.allocation.ensures)
    (subst (IsVerdict c.args.encoding c.args.table.now c.args.goal.now) c.in-Holds.is c.in_ok-verdict.ensures.verdict)
    (c.in_ok-verdict.ensures.sound c.in-Holds.is))
    c.check_held.ensures

pub returns-in_default : goal.returns-in_default
returns-in_default c =
    plain_judged c.args.encoding c.args.table.now c.args.goal.now c.args.said.now c.in_ok-verdict.verdict
    c.in_ok-verdict.ensures.verdict c.in_ok-verdict.ensures.sound (λ h. absurd (c.in_default.not-Holds h))
