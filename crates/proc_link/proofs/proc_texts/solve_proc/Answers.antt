use Rattle.std.proofs.Common.{◌≡◌, ◌≢◌, ◌∙◌, ◌++◌, List, length, map, ap, subst, sym}
use Rattle.std.proofs.lemmas.List.{length-map}
use Rattle.std.proofs.lemmas.Slice.Zip.{AllZip-long}
use Rattle.denali_run.specs.ClaimedResults.{answer_text}
use Rattle.denali_run.specs.Right.{AreRightResults, Right}
use Rattle.denali_run.specs.TextAnswers.{greatest_status}
use Rattle.denali_run.specs.declared.results.Answered.{Answered}
use Rattle.reports.specs.declared.statuses.Status.TheVariants as status
use Rattle.goal_meaning.specs.Views.{InputTree, goal_view, input_view}
use Rattle.goal_meaning.specs.WellFormed.{IsInput}
use Rattle.proc_goal.specs.Goals.{input_of_proc}
use Rattle.proc_goal.specs.Views.{proc_view}
use Rattle.text_core.specs.LineTexts.{lines_text}
use Rattle.proc_link.specs.Appended.{AppendsBehind}
use Rattle.proc_link.proofs.ResultListings.{ends_otherwise}
use Rattle.proc_link.proofs.proc_texts.solve_proc.Goals as goal

pub answer_text-requires : goal.answer_text-requires
answer_text-requires c =
    ap (λ (rs : List Answered). length rs) c.deref.ensures.value
    ∙ AllZip-long (λ goal answered. Right (input_view c.in_ok-input.input) goal c.args.settings.now answered)
    (map goal_view c.in_ok-input.input.goals) c.in_ok-results.results.items c.in_ok-results.ensures.right
    ∙ length-map c.in_ok-input.input.goals goal_view

pub put_behind-requires-clause-right : goal.put_behind-requires-clause-right
put_behind-requires-clause-right c = (
  c.args.settings.now,
  c.requires.settings,
  subst (AreRightResults (input_of_proc (proc_view c.args.proc.now)) c.args.settings.now) (sym c.deref-2.ensures.value)
      (subst (λ (i : InputTree). AreRightResults i c.args.settings.now c.in_ok-results.results.items) c.in_ok-input.ensures.input c.in_ok-results.ensures.right),
)

pub returns : goal.returns
returns c =
    let p = proc_view c.args.proc.now in
    let results = c.in_ok-results.results.items in
    let same = c.in_ok-input.ensures.input in
    let right : AreRightResults (input_of_proc p) c.args.settings.now results =
    subst (λ (i : InputTree). AreRightResults i c.args.settings.now results) same c.in_ok-results.ensures.right in
    let is : IsInput (input_of_proc p) = subst IsInput same c.in_ok-input.ensures.well_formed in
    let bytes : c.in_ok-answer.answer.bytes.items ≡ answer_text c.args.settings.now (input_of_proc p) results =
    c.in_ok-answer.ensures.bytes ∙ (λ j. answer_text c.args.settings.now (same j) (c.deref.ensures.value j)) in
    let ends : c.in_ok-answer.answer.status ≡ greatest_status results = c.in_ok-answer.ensures.status ∙ ap greatest_status c.deref.ensures.value in
    let behind : AppendsBehind p results c.in_ok-answer.answer.bytes.items c.put_behind.new.text.items =
    subst (λ (rs : List Answered). AppendsBehind p rs c.in_ok-answer.answer.bytes.items c.put_behind.new.text.items) c.deref-2.ensures.value c.in_ok-put_behind.ensures in
    record {
      results = results;
      right = right;
      behind = behind.behind;
      are_behind = behind.are_behind;
      bytes_are = behind.text ∙ ap (λ t. t ++ lines_text behind.behind) bytes;
      status_is = ends;
      has_world = subst (λ s. s ≢ status.NoWorld) (sym ends) (ends_otherwise p c.requires.proc c.args.settings.now c.requires.settings results right);
      read_back = λ starts. c.right_answers_are_read.ensures c.args.settings.now (input_of_proc p) results is c.requires.settings starts right;
    }
