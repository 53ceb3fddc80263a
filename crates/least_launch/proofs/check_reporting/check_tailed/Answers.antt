use Rattle.std.proofs.Common.{◌∙◌, ap, length, List, Option, subst, sym}
use Rattle.std.specs.Prelude.{All, IfOk}
use Rattle.answer_texts.specs.WellFormed.{IsClaimed}
use Rattle.answer_texts.specs.declared.answers.Claimed.{Claimed}
use Rattle.cycle_encoding.specs.declared.encodings.Encoding.{Encoding}
use Rattle.least_launch.specs.LeastChecks.{IsTailReportOn}
use Rattle.least_launch.specs.TailVerdicts.{HaveTheirTails}
use Rattle.least_launch.specs.declared.tails.Tail.{Tail}
use Rattle.least_launch.proofs.Reported.{as_many_said}
use Rattle.least_launch.proofs.check_reporting.check_tailed.Goals as goal

pub check_goals-requires-clause-goals : goal.check_goals-requires-clause-goals
check_goals-requires-clause-goals c =
    let version = c.args.tailed.now.answer.version in
    (version, subst (All (IsClaimed version)) (sym c.as_slice-goals.ensures) c.requires.answer.goals)

pub check_goals-requires-clause-same : goal.check_goals-requires-clause-same
check_goals-requires-clause-same c =
    ap (λ (gs : List Claimed). length gs) c.as_slice-goals.ensures
    ∙ as_many_said c.args.tailed.now.answer.goals c.args.tailed.now.said c.requires.said
    ∙ ap (λ (ts : List (Option Tail)). length ts) (sym c.as_slice.ensures)

pub check_goals-requires-clause-said : goal.check_goals-requires-clause-said
check_goals-requires-clause-said c =
    subst (λ (gs : List Claimed). HaveTheirTails gs c.as_slice.result.now) (sym c.as_slice-goals.ensures)
    (subst (HaveTheirTails c.args.tailed.now.answer.goals) (sym c.as_slice.ensures) c.requires.said)

pub returns : goal.returns
returns c =
    let table = c.args.tailed.now.answer.table in
    subst (λ (e : Encoding). IfOk c.check_goals.result
    (λ r. IsTailReportOn e table c.args.tailed.now.answer.goals c.args.tailed.now.said r.bytes.items r.rejected))
    c.encoding_named-encoding.ensures
    (subst (λ (gs : List Claimed). IfOk c.check_goals.result
    (λ r. IsTailReportOn c.encoding_named-encoding.result table gs c.args.tailed.now.said r.bytes.items r.rejected))
    c.as_slice-goals.ensures
    (subst (λ (ts : List (Option Tail)). IfOk c.check_goals.result
    (λ r. IsTailReportOn c.encoding_named-encoding.result table c.as_slice-goals.result.now ts r.bytes.items
    r.rejected))
    c.as_slice.ensures c.check_goals.ensures))
