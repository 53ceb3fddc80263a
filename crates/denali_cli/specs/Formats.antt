-- What the commands read: the format of each, how long a text may be, and when it has a reading and a fault.
-- Source: this project.
use Rattle.std.specs.Prelude.{ℕ, List, Option, None, Some}
use Rattle.answer_texts.specs.ReadAnswers.{IsAnswerFault, ReadsAnswer}
use Rattle.answer_texts.specs.declared.answers.AnswerText.{AnswerText}
use Rattle.code_check.specs.CodeGrammar.{CheckedTree, IsFirstCodesFault, ReadsCodes}
use Rattle.code_lift.specs.LiftGrammar.{IsFirstLiftFault, ReadsLifts}
use Rattle.code_lift.specs.Views.{LiftsTree}
use Rattle.goal_meaning.specs.Views.{InputTree}
use Rattle.goal_reader.specs.Grammar.{IsFirstTextFault, Reads}
use Rattle.least_launch.specs.TailedAnswers.{IsTailedFault, ReadsTailed}
use Rattle.least_launch.specs.declared.tails.Tail.{Tail}
use Rattle.proc_goal.specs.ProcGrammar.{IsFirstProcFault, ReadsProc}
use Rattle.proc_goal.specs.Views.{ProcTree}
use Rattle.run_texts.specs.RunFaults.{IsRunFault, ReadsRun}
use Rattle.run_texts.specs.declared.texts.RunText.{RunText}
use Rattle.text_core.specs.declared.faults.Kind.{Kind}
use Rattle.denali_cli.specs.Commands.{Command, Solve, SolveLeast, Proc, Check, CheckLeast, Trim, Verify, Run, Gen, Cnf, Lift, Improve, ImproveLeast, Cycles}
pub use Rattle.denali_cli.specs.declared.commands.Format.{Format}
use Rattle.denali_cli.specs.declared.commands.Format.TheVariants as formats

-- what a command reads, if it reads
abbrev pub format_of : Command → Option Format
format_of (Solve s) = Some formats.Goals
format_of (SolveLeast s) = Some formats.Goals
format_of (Proc s) = Some formats.Proc
format_of Check = Some formats.Answer
format_of CheckLeast = Some formats.TailedAnswer
format_of Trim = Some formats.Answer
format_of (Verify rounds nodes library) = Some formats.Codes
format_of Run = Some formats.Program
format_of (Gen size) = None
format_of (Cnf goal cycles) = Some formats.Answer
format_of Lift = Some formats.Lifts
format_of (Improve s) = Some formats.Lifts
format_of (ImproveLeast s) = Some formats.Lifts
format_of (Cycles cycles conflicts) = Some formats.Lifts

-- how many bytes of it are read at most; an answer may be long
abbrev pub limit : Format → ℕ
limit formats.Goals = 1048576
limit formats.Proc = 1048576
limit formats.Answer = 268435456
limit formats.TailedAnswer = 268435456
limit formats.Codes = 1048576
limit formats.Program = 1048576
limit formats.Lifts = 1048576

-- the text has a reading in the format
abbrev pub IsReadAs : Format → List ℕ → Type 0
IsReadAs formats.Goals text = (input : InputTree) × Reads text input
IsReadAs formats.Proc text = (proc : ProcTree) × ReadsProc text proc
IsReadAs formats.Answer text = (answer : AnswerText) × ReadsAnswer text answer
IsReadAs formats.TailedAnswer text = (answer : AnswerText) × (said : List (Option Tail)) × ReadsTailed text answer said
IsReadAs formats.Codes text = (checked : CheckedTree) × ReadsCodes text checked
IsReadAs formats.Program text = (program : RunText) × ReadsRun text program
IsReadAs formats.Lifts text = (lifts : LiftsTree) × ReadsLifts text lifts

-- the text's first fault in the format
abbrev pub IsFormatFault : Format → List ℕ → ℕ → Kind → Type 0
IsFormatFault formats.Goals text place kind = IsFirstTextFault text place kind
IsFormatFault formats.Proc text place kind = IsFirstProcFault text place kind
IsFormatFault formats.Answer text place kind = IsAnswerFault text place kind
IsFormatFault formats.TailedAnswer text place kind = IsTailedFault text place kind
IsFormatFault formats.Codes text place kind = IsFirstCodesFault text place kind
IsFormatFault formats.Program text place kind = IsRunFault text place kind
IsFormatFault formats.Lifts text place kind = IsFirstLiftFault text place kind
