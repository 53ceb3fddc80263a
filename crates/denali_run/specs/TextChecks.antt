-- Which bytes and which status answer the text of an answer that is to be checked. Source: this project.
use Rattle.std.specs.Prelude.{◌≡◌, ℕ, Bool, List, if◌then◌else◌}
use Rattle.answer_check.specs.Reports.{IsCheckReport}
use Rattle.answer_texts.specs.ReadAnswers.{ReadsAnswer}
use Rattle.answer_texts.specs.declared.answers.AnswerText.{AnswerText}
use Rattle.reports.specs.declared.statuses.Status.{Status}
use Rattle.reports.specs.declared.statuses.Status.TheVariants.{Done, Missing}

-- The text reads as an answer, the bytes are the lines of the verdicts on its goals, and the status tells whether some
-- claim is rejected.
pub record ChecksText (text bytes : List ℕ) (status : Status) : Type 0 where
  pub answer : AnswerText
  pub reads : ReadsAnswer text answer
  pub rejected : Bool
  pub report : IsCheckReport answer bytes rejected
  pub status_is : status ≡ (if rejected then Missing else Done)
