use Rattle.std.proofs.Common.{subst}
use Rattle.reports.specs.Errors.{IsErrorBy}
use Rattle.denali_cli.specs.Replies.{IsFaultFor}
use Rattle.denali_cli.proofs.Decided.{reply_of_fault, reports_other, reports_whole}
use Rattle.denali_cli.proofs.decide.answer.Goals as goal

pub returns-in-Ok-clause-whole : goal.returns-in-Ok-clause-whole
returns-in-Ok-clause-whole c =
    reports_whole c.args.command c.args.text.now c.in-Ok.report.bytes.items c.in-Ok.report.status
    c.in-Ok.ensures.reports

pub returns-in-Ok-clause-not_usage : goal.returns-in-Ok-clause-not_usage
returns-in-Ok-clause-not_usage c =
    reports_other c.args.command c.args.text.now c.in-Ok.report.bytes.items c.in-Ok.report.status
    c.in-Ok.ensures.reports

pub returns-in-Err-Read-clause-reply : goal.returns-in-Err-Read-clause-reply
returns-in-Err-Read-clause-reply c =
    reply_of_fault c.args.command c.args.text.now c.faulty.result c.in-Err-Read.fault c.requires.within
    c.faulty.ensures.ok
    (subst (IsErrorBy (IsFaultFor c.args.command c.args.text.now)) c.in-Err-Read.field-0-is c.in-Err-Read.ensures.error)
