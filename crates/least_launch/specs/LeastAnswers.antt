-- Which bytes and which status answer a text of goals where schedules with the fewest launches are asked for.
-- Source: this project.
use Rattle.std.specs.Prelude.{◌≡◌, ℕ, ◌≤◌, ◌^◌, Bool, true, false, List, [], ◌++◌, length, Option, Some, None, if◌then◌else◌}
use Rattle.std.specs.List.{AllZip, list_any}
use Rattle.denali_run.specs.ClaimedResults.{answer_text, answer_to}
use Rattle.denali_run.specs.Right.{AreRightResults}
use Rattle.denali_run.specs.TextAnswers.{greatest_status}
use Rattle.reports.specs.Statuses.{greater}
use Rattle.denali_run.specs.declared.results.Answered.{Answered}
use Rattle.denali_run.specs.declared.results.Answered.TheVariants.{Scheduled}
use Rattle.denali_run.specs.declared.results.Found.{Found}
use Rattle.denali_run.specs.declared.settings.Settings.{Settings}
use Rattle.reports.specs.declared.statuses.Status.{Status}
use Rattle.reports.specs.declared.statuses.Status.TheVariants as status
use Rattle.goal_meaning.specs.Views.{InputTree}
use Rattle.goal_reader.specs.Grammar.{Reads}
use Rattle.machine_table.specs.declared.tables.Table.{Table}
use Rattle.schedule_meaning.specs.declared.schedules.Allocation.{Allocation}
use Rattle.text_core.specs.LineTexts.{lines_text}
use Rattle.least_launch.specs.Fewest.{IsProof}
use Rattle.least_launch.specs.TailLines.{tail_lines}
use Rattle.least_launch.specs.TailedAnswers.{ReadsTailed}
use Rattle.least_launch.specs.declared.results.Proof.{Proof}
use Rattle.least_launch.specs.declared.results.Proof.TheVariants as proofs
use Rattle.least_launch.specs.declared.tails.Tail.{Tail}
use Rattle.least_launch.specs.declared.tails.Tail.TheVariants as tails

-- what is said of a schedule with so many launches by what stands beside it
abbrev pub said_by : ℕ → Proof → Tail
said_by launches proofs.None = tails.Least launches (record { lines = [] })
said_by launches (proofs.Refuted lines) = tails.Least launches lines
said_by launches (proofs.Spent lines) = tails.Spent launches lines
said_by launches (proofs.Size vars clauses) = tails.Size launches vars clauses

-- what is said of the schedule of a result, with what stands beside it
pub record IsSaidOf (table : Table) (a : Allocation) (conflicts : ℕ) (f : Found) (tail : Tail) : Type 0 where
  pub proof : Proof
  pub is_proof : IsProof f.matched.graph table a f.k conflicts (length f.schedule.launches) proof
  pub said : tail ≡ said_by (length f.schedule.launches) proof

-- of a result with a schedule this is said, and of another nothing
abbrev pub IsTailOf : Table → Allocation → ℕ → Answered → Option Tail → Type 0
IsTailOf table a conflicts (Scheduled f) (Some tail) = IsSaidOf table a conflicts f tail
IsTailOf table a conflicts (Scheduled f) None = ⊥
IsTailOf table a conflicts answered (Some tail) = ⊥
IsTailOf table a conflicts answered None = Unit {0}

-- it isn't known whether a schedule has fewer launches
abbrev pub is_most : Tail → Bool
is_most (tails.Least launches lines) = false
is_most (tails.Spent launches lines) = true
is_most (tails.Size launches vars clauses) = true

abbrev pub is_most_of : Option Tail → Bool
is_most_of None = false
is_most_of (Some tail) = is_most tail

abbrev pub some_is_most : List (Option Tail) → Bool
some_is_most said = list_any is_most_of said

-- the status that the results ask for, and at least that of a spent budget where for some goal it isn't known whether a
-- schedule has fewer launches
abbrev pub least_status : List Answered → List (Option Tail) → Status
least_status results said =
    if some_is_most said then greater (greatest_status results) status.Spent else greatest_status results

-- The text reads as an input, and each of its goals has a result that is right. Of each schedule among them is said
-- whether one with fewer launches fits. The bytes are the lines of the results and of what is said, and the status is
-- the one that these ask for. Of a text of at most 2^20 bytes, as many as the program reads, the bytes are read as the
-- answer that the results make, with what is said.
pub record AnswersLeast (s : Settings) (text bytes : List ℕ) (ending : Status) : Type 0 where
  pub input : InputTree
  pub reads : Reads text input
  pub results : List Answered
  pub right : AreRightResults input s results
  pub said : List (Option Tail)
  pub each : AllZip (IsTailOf input.table s.allocation s.conflicts) results said
  pub bytes_are : bytes ≡ answer_text s input results ++ lines_text (tail_lines said)
  pub read_back : length text ≤ 2 ^ 20 → ReadsTailed bytes (answer_to s input results) said
  pub status_is : ending ≡ least_status results said
