use Rattle.std.proofs.Common.{◌∙◌, subst, arith}
use Rattle.answer_texts.specs.WellFormed.{FitsClaim}
use Rattle.least_launch.specs.TailVerdicts.{FitsAsClaimed, ClaimsSchedule, IsTailOutcome}
use Rattle.least_launch.proofs.Judged.{if_both, plain_claim, tail_judged}
use Rattle.least_launch.proofs.checking.check_claimed.Goals as goal

pub check_tail-requires-clause-cycles : goal.check_tail-requires-clause-cycles
check_tail-requires-clause-cycles c = (subst FitsClaim c.in-Scheduled.is c.requires.small).0

pub check_tail-requires-clause-count : goal.check_tail-requires-clause-count
check_tail-requires-clause-count c =
    let fits = subst (FitsAsClaimed c.args.graph.now c.args.table.now c.args.allocation) c.in-Scheduled.is
    c.requires.fits in
    let few = c.fitting_schedules_are_small.ensures.few c.args.graph.now c.args.table.now c.args.allocation
    c.in-Scheduled.k c.in-Scheduled.schedule.launches c.requires.table fits in
    let low = (subst FitsClaim c.in-Scheduled.is c.requires.small).0 in
    let size = c.len-count.ensures in
    omega (arith, few, low, size)

pub returns-in-Scheduled : goal.returns-in-Scheduled
returns-in-Scheduled c =
    if_both _ _ _ c.check_tail.result
    (λ v outcome says e d kept there is verdict sound.
    tail_judged e c.args.table.now d c.args.graph.now c.in-Scheduled.k c.in-Scheduled.schedule _ _ there
    (is ∙ c.in-Scheduled.is)
    c.args.tail.now c.args.allocation kept v verdict sound
    (subst (λ n. IsTailOutcome c.args.graph.now c.args.table.now c.args.allocation c.in-Scheduled.k n c.args.tail.now v)
    c.len-count.ensures outcome) says)
    c.check_tail.ensures.outcome c.check_tail.ensures.sound

pub returns-in-NoWorld : goal.returns-in-NoWorld
returns-in-NoWorld c = λ e d kept there is verdict sound.
    plain_claim e c.args.table.now d c.args.claim.now _ is (λ s. subst ClaimsSchedule c.in-NoWorld.is s) verdict sound

pub returns-in-Missing : goal.returns-in-Missing
returns-in-Missing c = λ e d kept there is verdict sound.
    plain_claim e c.args.table.now d c.args.claim.now _ is (λ s. subst ClaimsSchedule c.in-Missing.is s) verdict sound

pub returns-in-SpentConflicts : goal.returns-in-SpentConflicts
returns-in-SpentConflicts c = λ e d kept there is verdict sound.
    plain_claim e c.args.table.now d c.args.claim.now _ is (λ s. subst ClaimsSchedule c.in-SpentConflicts.is s) verdict
    sound

pub returns-in-SpentSize : goal.returns-in-SpentSize
returns-in-SpentSize c = λ e d kept there is verdict sound.
    plain_claim e c.args.table.now d c.args.claim.now _ is (λ s. subst ClaimsSchedule c.in-SpentSize.is s) verdict sound
