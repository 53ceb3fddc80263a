use Rattle.std.proofs.Common.{◌≡◌, ◌∙◌, ap, length, List, map, subst, sym}
use Rattle.std.proofs.lemmas.List.{length-map}
use Rattle.answer_texts.specs.ReadAnswers.{ReadsAnswer}
use Rattle.goal_meaning.specs.Views.{goal_view, input_view}
use Rattle.goal_meaning.specs.WellFormed.{IsInput}
use Rattle.denali_run.specs.ClaimedResults.{answer_text, answer_to}
use Rattle.denali_run.specs.TextAnswers.{greatest_status}
use Rattle.denali_run.specs.declared.results.Answered.{Answered}
use Rattle.denali_run.specs.Right.{Right}
use Rattle.denali_run.proofs.AnsweredGoals.{as_many}
use Rattle.denali_run.proofs.SmallTexts.{starts_small}
use Rattle.denali_run.proofs.text_solving.solve_text.Goals as goal

pub answer_text-requires : goal.answer_text-requires
answer_text-requires c =
    subst (λ (rs : List Answered). length rs ≡ length c.in_ok-input.input.goals) (sym c.deref.ensures.value)
    (as_many (λ goal answered. Right (input_view c.in_ok-input.input) goal c.args.settings.now answered)
    (map goal_view c.in_ok-input.input.goals) c.in_ok-results.results.items c.in_ok-results.ensures.right
    ∙ length-map c.in_ok-input.input.goals goal_view)

pub returns-clause-answered : goal.returns-clause-answered
returns-clause-answered c =
    let text = c.args.text.now in
    let input = input_view c.in_ok-input.input in
    let results = c.in_ok-results.results.items in
    let is : IsInput (input_view c.in_ok-input.input) =
    c.read_inputs_are_well_formed.ensures text input c.requires.few c.in_ok-input.ensures.input in
    let bytes : c.in_ok-answer_text.field-0.bytes.items
    ≡ answer_text c.args.settings.now (input_view c.in_ok-input.input) c.in_ok-results.results.items =
    c.in_ok-answer_text.ensures.bytes
    ∙ ap (answer_text c.args.settings.now (input_view c.in_ok-input.input)) c.deref.ensures.value in
    record {
      input = input;
      reads = c.in_ok-input.ensures.input;
      results = results;
      right = c.in_ok-results.ensures.right;
      bytes_are = bytes;
      read_back = λ short.
          subst (λ bytes. ReadsAnswer bytes (answer_to c.args.settings.now input results)) (sym bytes)
          (c.right_answers_are_read.ensures c.args.settings.now input results is c.requires.settings
          (starts_small text input is (c.read_inputs_have_few_operators.ensures text input c.in_ok-input.ensures.input) short)
          c.in_ok-results.ensures.right);
      status_is = c.in_ok-answer_text.ensures.status ∙ ap greatest_status c.deref.ensures.value;
    }
