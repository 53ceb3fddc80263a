use Rattle.std.proofs.Common.{◌≡◌, ◌<◌, List, get_or, length, sym, subst, ◌∙◌}
use Rattle.std.specs.Prelude.{◌||◌}
use Rattle.answer_texts.specs.WellFormed.{IsClaimed}
use Rattle.answer_texts.specs.declared.answers.Claimed.{Claimed}
use Rattle.answer_check.specs.Reports.{IsJudged, encoding_named, is_rejection}
use Rattle.answer_check.proofs.Judging.{rejected_before, rejected_now, reported_next}
use Rattle.answer_check.proofs.reporting.check_answer.Goals as goal
use Rattle.answer_check.proofs.reporting.check_answer.Goals.{then-rejected, else-rejected}

pub check_goal-requires-clause-goal : goal.check_goal-requires-clause-goal
check_goal-requires-clause-goal c =
    let at = c.loop-goal.goal-index in
    let item = c.goal-item.result in
    let version = c.args.answer.now.version in (
      version,
      subst (IsClaimed version)
          (sym (subst (λ (gs : List Claimed). item ≡ get_or gs at item) c.as_slice-goal-items.ensures c.goal-item.is))
          (c.requires.goals at item
          (subst (λ (gs : List Claimed). at < length gs) c.as_slice-goal-items.ensures c.loop-goal-test.true)),
    )

pub loop-goal-preserved : goal.loop-goal-preserved
loop-goal-preserved c =
    let before = c.loop-goal.rejected in
    let after = c.if-rejected.rejected in
    let now = is_rejection c.in_ok-verdict.verdict in
    let told : c.if-rejected.rejected ≡ (c.loop-goal.rejected || is_rejection c.in_ok-verdict.verdict) =
    elim c.if-rejected.branch [
      | then-rejected w ↦ rejected_before before after now w.if-rejected.true w.rejected-is
      | else-rejected w ↦
          rejected_now before after now w.if-rejected.false (w.rejected-is ∙ w.is_rejection-rejected.ensures)
    ] in
    reported_next (encoding_named c.args.answer.now.encoding) c.args.answer.now.table c.args.answer.now.goals c.as_slice-goal-items.result.now c.loop-goal.goal-index
    c.loop-goal.bytes.items c.put_verdict.new.text.items before after c.goal-item.result c.in_ok-verdict.verdict
    c.as_slice-goal-items.ensures c.loop-goal-test.true c.goal-item.is c.loop-goal.invariant
    (subst (λ e. IsJudged e c.args.answer.now.table c.goal-item.result c.in_ok-verdict.verdict)
    c.encoding_named-encoding.ensures
    (record { verdict = c.in_ok-verdict.ensures.verdict; sound = c.in_ok-verdict.ensures.sound }))
    c.in_ok-put_verdict.ensures told
