use Rattle.std.proofs.Common.{take}
use Rattle.least_launch.specs.LeastChecks.{IsTailReportOn}
use Rattle.least_launch.proofs.check_reporting.check_goals.Given as goal

-- the report on the goals so far
abbrev pub invariant-loop-at : goal.invariant-loop-at
invariant-loop-at l = IsTailReportOn l.encoding l.table (take l.at l.goals) (take l.at l.said) l.bytes.items l.rejected
