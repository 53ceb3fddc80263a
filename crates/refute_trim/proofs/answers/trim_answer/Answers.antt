use Rattle.std.proofs.Common.{◌≡◌, ◌++◌, ◌<◌, ◌≤◌, ℕ, List, get_or, length, ap, subst, sym, ◌∙◌, arith}
use Rattle.answer_check.specs.Reports.{encoding_named, verdict_words}
use Rattle.answer_texts.specs.AnswerLines.{head_lines}
use Rattle.answer_texts.specs.WellFormed.{IsClaimed}
use Rattle.answer_texts.specs.declared.answers.Claimed.{Claimed}
use Rattle.text_core.specs.LineTexts.{line_text, lines_text}
use Rattle.refute_trim.specs.Outcomes.{IsPutTrimmed}
use Rattle.refute_trim.specs.TrimmedAnswers.{IsRejectedGoal}
use Rattle.refute_trim.proofs.Claiming.{where_none, where_some}
use Rattle.refute_trim.proofs.Reporting.{rejected_at, trimmed_all, trimmed_more, trimmed_none}
use Rattle.refute_trim.proofs.answers.trim_answer.Goals as goal

pub put_trimmed-requires-clause-goal : goal.put_trimmed-requires-clause-goal
put_trimmed-requires-clause-goal c =
    let at = c.loop-goal.goal-index in
    let item = c.goal-item.result in
    let version = c.args.answer.now.version in (
      version,
      subst (IsClaimed version)
          (sym (subst (λ (gs : List Claimed). item ≡ get_or gs at item) c.as_slice-goal-items.ensures c.goal-item.is))
          (c.requires.goals at item
          (subst (λ (gs : List Claimed). at < length gs) c.as_slice-goal-items.ensures c.loop-goal-test.true)),
    )

pub loop-goal-init : goal.loop-goal-init
loop-goal-init c =
    let a = c.args.answer.now in
    trimmed_none a _ (c.in_ok-put_head.ensures ∙ ap (λ (t : List ℕ). t ++ lines_text (head_lines a.version a.encoding a.table a.builtin a.library)) c.new-text.ensures.items)

pub loop-goal-preserved : goal.loop-goal-preserved
loop-goal-preserved c =
    let a = c.args.answer.now in
    trimmed_more a c.as_slice-goal-items.result.now c.loop-goal.goal-index c.loop-goal.text.items c.put_trimmed.new.text.items c.goal-item.result
    c.as_slice-goal-items.ensures c.loop-goal-test.true c.goal-item.is c.loop-goal.invariant
    (subst (λ e. IsPutTrimmed e a.table c.goal-item.result c.loop-goal.text.items c.put_trimmed.new.text.items) c.encoding_named-encoding.ensures
    (where_none (IsRejectedGoal c.encoding_named-encoding.result a.table c.goal-item.result) c.in_ok-verdict.field-0 c.in_default.is c.in_ok-verdict.ensures))

pub returns : goal.returns
returns c =
    let a = c.args.answer.now in
    trimmed_all a c.loop-goal.goal-index c.loop-goal.text.items
    (subst (λ (gs : List Claimed). length gs ≤ c.loop-goal.goal-index) c.as_slice-goal-items.ensures (omega (arith, c.loop-goal-test.false)))
    c.loop-goal.invariant

pub returns-in-Some : goal.returns-in-Some
returns-in-Some c =
    let a = c.args.answer.now in
    let item = c.goal-item.result in
    let bad : IsRejectedGoal (encoding_named a.encoding) a.table item c.in-Some.verdict =
    subst (λ e. IsRejectedGoal e a.table item c.in-Some.verdict) c.encoding_named-encoding.ensures
    (where_some (IsPutTrimmed c.encoding_named-encoding.result a.table item c.loop-goal.text.items c.put_trimmed.new.text.items)
    (IsRejectedGoal c.encoding_named-encoding.result a.table item) c.in_ok-verdict.field-0 c.in-Some.verdict c.in-Some.is c.in_ok-verdict.ensures) in
    rejected_at a c.as_slice-goal-items.result.now c.loop-goal.goal-index c.loop-goal.text.items _ item c.in-Some.verdict
    c.as_slice-goal-items.ensures c.loop-goal-test.true c.goal-item.is c.loop-goal.invariant bad
    (c.in_ok-put_verdict.ensures ∙ ap (λ (t : List ℕ). t ++ line_text (verdict_words item c.in-Some.verdict)) c.new-bytes.ensures.items)
