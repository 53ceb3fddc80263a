-- Which bytes and which status answer a text of goals. Source: this project.
use Rattle.std.specs.Prelude.{◌≡◌, ℕ, ◌≤◌, ◌^◌, List, length, fold}
use Rattle.answer_texts.specs.ReadAnswers.{ReadsAnswer}
use Rattle.goal_reader.specs.Grammar.{Reads}
use Rattle.goal_meaning.specs.Views.{InputTree}
use Rattle.denali_run.specs.ClaimedResults.{answer_to, answer_text}
use Rattle.denali_run.specs.Right.{AreRightResults}
use Rattle.reports.specs.Statuses.{greater}
use Rattle.denali_run.specs.declared.results.Answered.{Answered}
use Rattle.denali_run.specs.declared.results.Answered.TheVariants.{Scheduled, Nowhere, SpentConflicts, SpentSize, NoWorld}
use Rattle.denali_run.specs.declared.settings.Settings.{Settings}
use Rattle.reports.specs.declared.statuses.Status.{Status}
use Rattle.reports.specs.declared.statuses.Status.TheVariants as status

-- the status that a result asks for
abbrev pub status_of : Answered → Status
status_of (Scheduled f) = status.Done
status_of (Nowhere m) = status.Missing
status_of (SpentConflicts t) = status.Spent
status_of (SpentSize l) = status.Spent
status_of (NoWorld class a b) = status.NoWorld

-- the status with the greatest code that the results ask for
abbrev pub greatest_status : List Answered → Status
greatest_status results = fold (λ s r. greater s (status_of r)) status.Done results

-- The text reads as an input, each of its goals has a result that is right, the bytes are the lines of these results,
-- and the status is the one with the greatest code that they ask for. Of a text of at most 2^20 bytes, as many as the
-- program reads, the bytes are read as the answer that the results make.
pub record Answers (s : Settings) (text bytes : List ℕ) (status : Status) : Type 0 where
  pub input : InputTree
  pub reads : Reads text input
  pub results : List Answered
  pub right : AreRightResults input s results
  pub bytes_are : bytes ≡ answer_text s input results
  pub read_back : length text ≤ 2 ^ 20 → ReadsAnswer bytes (answer_to s input results)
  pub status_is : status ≡ greatest_status results
