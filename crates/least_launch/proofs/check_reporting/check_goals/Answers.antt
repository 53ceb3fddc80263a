use Rattle.std.proofs.Common.{◌≡◌, ◌<◌, subst, sym, ◌∙◌, arith}
use Rattle.std.specs.Prelude.{◌||◌}
use Rattle.answer_texts.specs.WellFormed.{IsClaimed}
use Rattle.least_launch.specs.LeastChecks.{is_tail_rejection}
use Rattle.least_launch.proofs.Reported.{rejected_before, rejected_now, reported_all, reported_next, said_at}
use Rattle.least_launch.proofs.check_reporting.check_goals.Goals as goal
use Rattle.least_launch.proofs.check_reporting.check_goals.Goals.{then-rejected, else-rejected}

pub check_said-requires-clause-goal : goal.check_said-requires-clause-goal
check_said-requires-clause-goal c =
    let at = c.loop-at.at in
    let version = c.requires.goals.0 in (
      version,
      subst (IsClaimed version) (sym c.index-goals-at.is)
          (c.requires.goals.1 at c.index-goals-at.result c.loop-at-test.true),
    )

pub check_said-requires-clause-said : goal.check_said-requires-clause-said
check_said-requires-clause-said c =
    (said_at c.args.goals.now c.args.said.now c.loop-at.at c.index-goals-at.result c.index-said-at.result
    c.requires.said
    c.loop-at-test.true c.index-goals-at.is c.index-said-at.is).some

pub check_said-requires-clause-few : goal.check_said-requires-clause-few
check_said-requires-clause-few c =
    (said_at c.args.goals.now c.args.said.now c.loop-at.at c.index-goals-at.result c.index-said-at.result
    c.requires.said
    c.loop-at-test.true c.index-goals-at.is c.index-said-at.is).few

pub loop-at-preserved : goal.loop-at-preserved
loop-at-preserved c =
    let before = c.loop-at.rejected in
    let after = c.if-rejected.rejected in
    let now = is_tail_rejection c.in_ok-verdict.verdict in
    let told : c.if-rejected.rejected ≡ (c.loop-at.rejected || is_tail_rejection c.in_ok-verdict.verdict) =
    elim c.if-rejected.branch [
      | then-rejected w ↦ rejected_before before after now w.if-rejected.true w.rejected-is
      | else-rejected w ↦
          rejected_now before after now w.if-rejected.false (w.rejected-is ∙ w.is_rejection-rejected.ensures)
    ] in
    reported_next c.args.encoding c.args.table.now c.args.goals.now c.args.said.now c.loop-at.at c.loop-at.bytes.items
    c.put_tail_verdict.new.text.items before after c.index-goals-at.result c.index-said-at.result
    c.in_ok-verdict.verdict
    c.loop-at-test.true (subst (λ n. c.loop-at.at < n) c.requires.same c.loop-at-test.true) c.index-goals-at.is
    c.index-said-at.is c.loop-at.invariant c.in_ok-verdict.ensures c.in_ok-put_tail_verdict.ensures told

pub returns : goal.returns
returns c =
    let end = c.loop-at-test.false in
    reported_all c.args.encoding c.args.table.now c.args.goals.now c.args.said.now c.loop-at.at c.loop-at.bytes.items
    c.loop-at.rejected (omega (arith, end)) c.requires.same c.loop-at.invariant
