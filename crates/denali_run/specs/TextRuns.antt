-- Which bytes and which status answer the text of a program to be run. Source: this project.
use Rattle.std.specs.Prelude.{◌≡◌, ℕ, List}
use Rattle.run_texts.specs.Reports.{IsRunReport}
use Rattle.run_texts.specs.RunFaults.{ReadsRun}
use Rattle.run_texts.specs.declared.texts.RunText.{RunText}
use Rattle.reports.specs.declared.statuses.Status.{Status}
use Rattle.reports.specs.declared.statuses.Status.TheVariants.{Done}

-- The text reads as a program, and the bytes are the report of how its words end that are run with what it gives.
pub record RunsText (text bytes : List ℕ) (status : Status) : Type 0 where
  pub program : RunText
  pub reads : ReadsRun text program
  pub report : IsRunReport program bytes
  pub done : status ≡ Done
