use Rattle.std.proofs.Common.{◌≡◌, ◌++◌, List, ℕ, map, sym, ap, ◌∙◌, arith}
use Rattle.answer_texts.specs.AnswerLines.{head_lines}
use Rattle.answer_texts.specs.Lent.{lent_claimed}
use Rattle.goal_meaning.specs.Views.{goal_view}
use Rattle.goal_meaning.specs.declared.goals.Goal.{Goal}
use Rattle.text_core.specs.LineTexts.{lines_text}
use Rattle.denali_run.specs.ClaimedResults.{encoding_number, version_of}
use Rattle.denali_run.specs.Encodings.{encoding_in}
use Rattle.denali_run.proofs.ClaimedGoals.{no_goals, goal_more, all_goals}
use Rattle.denali_run.proofs.claiming.print.Goals as goal

pub loop-at-init : goal.loop-at-init
loop-at-init c =
    let s = c.args.settings.now in
    let input = c.args.input.now in
    let e = encoding_in s in
    let head : List ℕ = lines_text (head_lines (version_of e) (encoding_number e) input.table input.builtin s.library) in
    let numbers : c.version_of.result ≡ version_of e = c.version_of.ensures ∙ ap version_of c.encoding-encoding.ensures in
    let names : c.encoding_number.result ≡ encoding_number e =
    c.encoding_number.ensures ∙ ap encoding_number c.encoding-encoding.ensures in
    no_goals input.table (map goal_view input.goals) _ _
    (c.in_ok-put_head.ensures
    ∙ (λ j. c.new-text.ensures.items j ++ lines_text (head_lines (numbers j) (names j) input.table input.builtin s.library)))

pub loop-at-preserved : goal.loop-at-preserved
loop-at-preserved c =
    let s = c.args.settings.now in
    let input = c.args.input.now in
    let e = encoding_in s in
    goal_more input.table input.goals c.as_slice-goals.result.now c.args.results.now c.loop-at.at
    c.index-goals-at.result c.index-results-at.result (lent_claimed c.claimed-goal.result) _
    (lines_text (head_lines (version_of e) (encoding_number e) input.table input.builtin s.library))
    c.loop-at.text.items c.put_goal.new.text.items
    c.as_slice-goals.ensures c.loop-at-test.true c.requires c.index-goals-at.is c.index-results-at.is
    (sym (ap (λ (goal : Goal). goal.name) c.index-goals-at.is)) c.claimed-goal.ensures
    c.loop-at.invariant c.in_ok-put_goal.ensures

pub returns : goal.returns
returns c =
    let s = c.args.settings.now in
    let input = c.args.input.now in
    let e = encoding_in s in
    all_goals input.table (map goal_view input.goals)
    (head_lines (version_of e) (encoding_number e) input.table input.builtin s.library) c.args.results.now c.loop-at.at
    c.loop-at.text.items (omega (arith, c.loop-at-test.false, c.loop-at.auto.at-end)) c.loop-at.invariant
