-- Which bytes and which status answer a text of lifts, of which better words are asked for. Source: this project.
use Rattle.std.specs.Prelude.{◌≡◌, ℕ, List, ◌++◌, Option}
use Rattle.std.specs.List.{AllZip}
use Rattle.answer_texts.specs.ReadAnswers.{ReadsAnswer}
use Rattle.code_lift.specs.Goals.{input_of_lifts}
use Rattle.code_lift.specs.LiftGrammar.{ReadsLifts}
use Rattle.code_lift.specs.Views.{LiftsTree}
use Rattle.denali_run.specs.ClaimedResults.{answer_text, answer_to}
use Rattle.denali_run.specs.Right.{AreRightResults}
use Rattle.denali_run.specs.TextAnswers.{greatest_status}
use Rattle.denali_run.specs.declared.results.Answered.{Answered}
use Rattle.denali_run.specs.declared.settings.Settings.{Settings}
use Rattle.least_launch.specs.LeastAnswers.{IsTailOf, least_status}
use Rattle.least_launch.specs.TailLines.{tail_lines}
use Rattle.least_launch.specs.TailedAnswers.{ReadsTailed}
use Rattle.least_launch.specs.declared.tails.Tail.{Tail}
use Rattle.reports.specs.declared.statuses.Status.{Status}
use Rattle.text_core.specs.LineTexts.{lines_text}
use Rattle.code_improve.specs.Improved.{IsImproved}

-- The text reads as lifts. Their goals have results that are right, and the words of each schedule among them do the
-- same as the given ones. The bytes are the lines of these results, which are read as what they say, and the status is
-- the one with the greatest code that they ask for.
pub record ImprovesText (s : Settings) (text bytes : List ℕ) (ending : Status) : Type 0 where
  pub lifts : LiftsTree
  pub reads : ReadsLifts text lifts
  pub results : List Answered
  pub right : AreRightResults (input_of_lifts lifts) s results
  pub same : AllZip IsImproved lifts.lifts results
  pub bytes_are : bytes ≡ answer_text s (input_of_lifts lifts) results
  pub read_back : ReadsAnswer bytes (answer_to s (input_of_lifts lifts) results)
  pub status_is : ending ≡ greatest_status results

-- The same, and of each schedule is said whether one with fewer launches fits.
pub record ImprovesLeast (s : Settings) (text bytes : List ℕ) (ending : Status) : Type 0 where
  pub lifts : LiftsTree
  pub reads : ReadsLifts text lifts
  pub results : List Answered
  pub right : AreRightResults (input_of_lifts lifts) s results
  pub same : AllZip IsImproved lifts.lifts results
  pub said : List (Option Tail)
  pub each : AllZip (IsTailOf lifts.table s.allocation s.conflicts) results said
  pub bytes_are : bytes ≡ answer_text s (input_of_lifts lifts) results ++ lines_text (tail_lines said)
  pub read_back : ReadsTailed bytes (answer_to s (input_of_lifts lifts) results) said
  pub status_is : ending ≡ least_status results said
