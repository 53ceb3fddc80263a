use Rattle.std.proofs.Common.{take}
use Rattle.answer_check.specs.Reports.{IsCheckReportOn, encoding_named}
use Rattle.answer_check.proofs.reporting.check_answer.Given as goal

-- the report on the goals so far
abbrev pub invariant-loop-goal : goal.invariant-loop-goal
invariant-loop-goal l = IsCheckReportOn (encoding_named l.answer.encoding) l.answer.table (take l.goal-index l.answer.goals) l.bytes.items l.rejected
