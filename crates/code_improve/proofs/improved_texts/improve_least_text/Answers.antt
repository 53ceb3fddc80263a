use Rattle.std.proofs.Common.{◌≡◌, ◌∙◌, ◌++◌, List, ap, length, map, subst, sym}
use Rattle.std.specs.List.{AllZip}
use Rattle.std.proofs.lemmas.List.{length-map}
use Rattle.std.proofs.lemmas.Slice.Zip.{AllZip-long}
use Rattle.code_lift.specs.Goals.{input_of_lifts}
use Rattle.code_lift.specs.Views.{lifts_view}
use Rattle.denali_run.specs.ClaimedResults.{StartsWithinFormat, answer_text, answer_to}
use Rattle.denali_run.specs.Right.{AreRightResults, Right}
use Rattle.denali_run.specs.declared.results.Answered.{Answered}
use Rattle.goal_meaning.specs.Views.{InputTree, goal_view, input_view}
use Rattle.goal_meaning.specs.WellFormed.{IsInput}
use Rattle.code_improve.proofs.Improving.{all_same, starts_within}
use Rattle.least_launch.specs.LeastAnswers.{IsTailOf, least_status}
use Rattle.least_launch.specs.TailLines.{tail_lines}
use Rattle.least_launch.specs.TailedAnswers.{ReadsTailed}
use Rattle.machine_table.specs.declared.tables.Table.{Table}
use Rattle.text_core.specs.LineTexts.{lines_text}
use Rattle.code_improve.proofs.improved_texts.improve_least_text.Goals as goal

pub report_least-requires : goal.report_least-requires
report_least-requires c =
    ap (λ (rs : List Answered). length rs) c.deref.ensures.value
    ∙ AllZip-long (λ goal answered. Right (input_view c.in_ok-input.input) goal c.args.settings.now answered)
    (map goal_view c.in_ok-input.input.goals) c.in_ok-solved.solved.results.items c.in_ok-solved.ensures.right
    ∙ length-map c.in_ok-input.input.goals goal_view

pub returns-clause-answered : goal.returns-clause-answered
returns-clause-answered c =
    let lifts = lifts_view c.in_ok-lifts.lifts in
    let results = c.in_ok-solved.solved.results.items in
    let said = c.in_ok-solved.solved.said.items in
    let settings = c.args.settings.now in
    let same : input_view c.in_ok-input.input ≡ input_of_lifts (lifts_view c.in_ok-lifts.lifts) = c.in_ok-input.ensures.input in
    let well = c.goals_of_lifts_are_well_formed.ensures in
    let is : IsInput (input_of_lifts lifts) = well.well_formed lifts c.in_ok-lifts.ensures.well_formed in
    let starts : StartsWithinFormat (input_of_lifts lifts) =
    starts_within (input_of_lifts lifts) is (well.few lifts c.in_ok-lifts.ensures.well_formed) in
    let right : AreRightResults (input_of_lifts lifts) settings results =
    subst (λ (i : InputTree). AreRightResults i settings results) same c.in_ok-solved.ensures.right in
    let each : AllZip (IsTailOf lifts.table settings.allocation settings.conflicts) results said =
    subst (λ (t : Table). AllZip (IsTailOf t settings.allocation settings.conflicts) results said) (ap (λ (i : InputTree). i.table) same)
    c.in_ok-solved.ensures.said in
    let bytes : c.in_ok-report_least.field-0.bytes.items
    ≡ answer_text c.args.settings.now (input_of_lifts lifts) results ++ lines_text (tail_lines said) =
    c.in_ok-report_least.ensures.bytes
    ∙ (λ j. answer_text c.args.settings.now (same j) (c.deref.ensures.value j) ++ lines_text (tail_lines (c.deref-2.ensures.value j))) in
    record {
      lifts = lifts;
      reads = c.in_ok-lifts.ensures.lifts;
      results = results;
      right = right;
      same = all_same settings lifts (λ lift f is_lift one. c.improved_code_is_the_same.ensures settings lifts lift f is_lift one)
          lifts.lifts results c.in_ok-lifts.ensures.well_formed.each right;
      said = said;
      each = each;
      bytes_are = bytes;
      read_back = subst (λ (bs : List _). ReadsTailed bs (answer_to c.args.settings.now (input_of_lifts lifts) results) said) (sym bytes)
          (c.tailed_answers_are_read.ensures settings (input_of_lifts lifts) results said is c.requires.settings starts right each);
      status_is = c.in_ok-report_least.ensures.status
          ∙ (λ j. least_status (c.deref.ensures.value j) (c.deref-2.ensures.value j));
    }
