use Rattle.std.proofs.Common.{◌≡◌, ◌∙◌, ◌++◌, ℕ, ap, length, List, Option, map, subst, sym}
use Rattle.std.proofs.lemmas.List.{length-map}
use Rattle.denali_run.specs.ClaimedResults.{answer_text, answer_to}
use Rattle.denali_run.specs.Right.{Right}
use Rattle.denali_run.specs.declared.results.Answered.{Answered}
use Rattle.denali_run.proofs.AnsweredGoals.{as_many}
use Rattle.denali_run.proofs.SmallTexts.{starts_small}
use Rattle.goal_meaning.specs.Views.{goal_view, input_view}
use Rattle.goal_meaning.specs.WellFormed.{IsInput}
use Rattle.text_core.specs.LineTexts.{lines_text}
use Rattle.least_launch.specs.LeastAnswers.{least_status}
use Rattle.least_launch.specs.TailLines.{tail_lines}
use Rattle.least_launch.specs.TailedAnswers.{ReadsTailed}
use Rattle.least_launch.specs.declared.tails.Tail.{Tail}
use Rattle.least_launch.proofs.solving.solve_least_text.Goals as goal

pub report_least-requires : goal.report_least-requires
report_least-requires c =
    subst (λ (rs : List Answered). length rs ≡ length c.in_ok-input.input.goals) (sym c.deref.ensures.value)
    (as_many (λ goal answered. Right (input_view c.in_ok-input.input) goal c.args.settings.now answered)
    (map goal_view c.in_ok-input.input.goals) c.in_ok-solved.solved.results.items c.in_ok-solved.ensures.right
    ∙ length-map c.in_ok-input.input.goals goal_view)

pub returns-clause-answered : goal.returns-clause-answered
returns-clause-answered c =
    let text = c.args.text.now in
    let input = input_view c.in_ok-input.input in
    let results = c.in_ok-solved.solved.results.items in
    let said = c.in_ok-solved.solved.said.items in
    let is : IsInput (input_view c.in_ok-input.input) =
    c.read_inputs_are_well_formed.ensures text input c.requires.few c.in_ok-input.ensures.input in
    let bytes : c.in_ok-report_least.field-0.bytes.items
    ≡ answer_text c.args.settings.now (input_view c.in_ok-input.input) c.in_ok-solved.solved.results.items
    ++ lines_text (tail_lines c.in_ok-solved.solved.said.items) =
    c.in_ok-report_least.ensures.bytes
    ∙ ap (λ (rs : List Answered). answer_text c.args.settings.now (input_view c.in_ok-input.input) rs ++ lines_text
    (tail_lines c.deref-2.result.now))
    c.deref.ensures.value
    ∙ ap (λ (ts : List (Option Tail)). answer_text c.args.settings.now (input_view c.in_ok-input.input)
    c.in_ok-solved.solved.results.items ++ lines_text (tail_lines ts)) c.deref-2.ensures.value in
    record {
      input = input;
      reads = c.in_ok-input.ensures.input;
      results = results;
      right = c.in_ok-solved.ensures.right;
      said = said;
      each = c.in_ok-solved.ensures.said;
      bytes_are = bytes;
      read_back = λ short.
          subst (λ (bs : List ℕ). ReadsTailed bs (answer_to c.args.settings.now input results) said) (sym bytes)
          (c.tailed_answers_are_read.ensures c.args.settings.now input results said is c.requires.settings
          (starts_small text input is (c.read_inputs_have_few_operators.ensures text input c.in_ok-input.ensures.input) short)
          c.in_ok-solved.ensures.right c.in_ok-solved.ensures.said);
      status_is = c.in_ok-report_least.ensures.status
          ∙ ap (λ (rs : List Answered). least_status rs c.deref-2.result.now) c.deref.ensures.value
          ∙ ap (λ (ts : List (Option Tail)). least_status c.in_ok-solved.solved.results.items ts)
          c.deref-2.ensures.value;
    }
