-- What a command and the bytes read are answered by.
-- Source: this project.
use Rattle.std.specs.Prelude.{◌≡◌, ℕ, ◌-◌, ◌<◌, ◌≤◌, List, ◌++◌, length, IfSome, IsSomeAnd, Option, Some, codes, decimal}
use Rattle.std.specs.Option.{option_map}
use Rattle.text_core.specs.Faults.{fault_text}
use Rattle.text_core.specs.declared.faults.Kind.{Kind}
use Rattle.denali_run.specs.GeneratedAnswers.{AnswersGenerated}
use Rattle.denali_run.specs.TextAnswers.{Answers}
use Rattle.denali_run.specs.TextChecks.{ChecksText}
use Rattle.denali_run.specs.TextRuns.{RunsText}
use Rattle.reports.specs.declared.statuses.Status.{Status}
use Rattle.reports.specs.declared.statuses.Status.TheVariants.{ReadFault}
use Rattle.least_launch.specs.LeastAnswers.{AnswersLeast}
use Rattle.least_launch.specs.LeastChecks.{ChecksLeast}
use Rattle.proc_link.specs.ProcAnswers.{AnswersProc}
use Rattle.dimacs.specs.GoalClauses.{GivesClauses}
use Rattle.code_improve.specs.CycleCounts.{CountsCycles}
use Rattle.code_improve.specs.ImprovedTexts.{ImprovesLeast, ImprovesText}
use Rattle.code_improve.specs.LiftedTexts.{LiftsText}
use Rattle.refute_trim.specs.TrimmedAnswers.{TrimsText}
use Rattle.denali_cli.specs.Commands.{Command, Solve, SolveLeast, Proc, Check, CheckLeast, Trim, Verify, Run, Gen, Cnf, Lift, Improve, ImproveLeast, Cycles}
use Rattle.denali_cli.specs.Formats.{IsFormatFault, IsReadAs, format_of, limit}
use Rattle.denali_cli.specs.VerifiedTexts.{VerifiesText}

-- how many bytes a command reads at most, if it reads
abbrev pub limit_of : Command → Option ℕ
limit_of command = option_map limit (format_of command)

-- the text is longer than the command reads
abbrev pub IsPastLimit : Command → List ℕ → Type 0
IsPastLimit command text = (limit : ℕ) × (limit_of command ≡ Some limit) × (limit < length text)

abbrev pub IsWithinLimit : Command → List ℕ → Type 0
IsWithinLimit command text = (limit : ℕ) → limit_of command ≡ Some limit → length text ≤ limit

-- the line for a text past a limit
abbrev pub too_long_line : ℕ → List ℕ
too_long_line limit = codes "fault " ++ decimal limit ++ codes " TooLong\n"

-- the line for a text's first fault
abbrev pub fault_line : ℕ → Kind → List ℕ
fault_line place kind = fault_text (record { place = place; kind = kind }) ++ codes "\n"

abbrev pub usage_line : List ℕ
usage_line = codes "usage\n"

-- ---- each command's texts; a command that doesn't read has the empty one, which is no fault

-- the text has a reading for the command
abbrev pub IsReadFor : Command → List ℕ → Type 0
IsReadFor command text = IfSome (format_of command) (λ format. IsReadAs format text)

-- the text's first fault for the command
abbrev pub IsFaultFor : Command → List ℕ → ℕ → Kind → Type 0
IsFaultFor command text place kind = IsSomeAnd (format_of command) (λ format. IsFormatFault format text place kind)

-- the command's report on a text, and its status
abbrev pub Reports : Command → List ℕ → List ℕ → Status → Type 0
Reports (Solve s) text bytes status = Answers s text bytes status
Reports (SolveLeast s) text bytes status = AnswersLeast s text bytes status
Reports (Proc s) text bytes status = AnswersProc s text bytes status
Reports Check text bytes status = ChecksText text bytes status
Reports CheckLeast text bytes status = ChecksLeast text bytes status
Reports Trim text bytes status = TrimsText text bytes status
Reports (Verify rounds nodes library) text bytes status = VerifiesText rounds nodes library text bytes status
Reports Run text bytes status = RunsText text bytes status
Reports (Gen size) text bytes status = AnswersGenerated size bytes status
Reports (Cnf goal cycles) text bytes status = GivesClauses (goal - 1) cycles text bytes status
Reports Lift text bytes status = LiftsText text bytes status
Reports (Improve s) text bytes status = ImprovesText s text bytes status
Reports (ImproveLeast s) text bytes status = ImprovesLeast s text bytes status
Reports (Cycles cycles conflicts) text bytes status = CountsCycles cycles conflicts text bytes status

-- The bytes that answer a command and the bytes read, and the status: one row for each kind of text.
pub data Reply (command : Command) (text written : List ℕ) (status : Status) : Type 0 where
  too_long : (limit : ℕ) → limit_of command ≡ Some limit → limit < length text
      → written ≡ too_long_line limit → status ≡ ReadFault → Reply command text written status
  faulty : (place : ℕ) (kind : Kind) → IsWithinLimit command text → IsFaultFor command text place kind
      → written ≡ fault_line place kind → status ≡ ReadFault → Reply command text written status
  answered : IsWithinLimit command text → Reports command text written status → Reply command text written status
