-- Which bytes and which status answer a text of lifts, of which the goals are asked for. Source: this project.
use Rattle.std.specs.Prelude.{◌≡◌, ℕ, List}
use Rattle.goal_reader.specs.Printing.{input_text}
use Rattle.code_lift.specs.Goals.{input_of_lifts}
use Rattle.code_lift.specs.LiftGrammar.{ReadsLifts}
use Rattle.code_lift.specs.Views.{LiftsTree}
use Rattle.reports.specs.declared.statuses.Status.{Status}
use Rattle.reports.specs.declared.statuses.Status.TheVariants.{Done}

-- the text reads as lifts, and the bytes are the canonical text of their goals
pub record LiftsText (text bytes : List ℕ) (ending : Status) : Type 0 where
  pub lifts : LiftsTree
  pub reads : ReadsLifts text lifts
  pub bytes_are : bytes ≡ input_text (input_of_lifts lifts)
  pub status_is : ending ≡ Done
