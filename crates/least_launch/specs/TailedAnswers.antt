-- Which answer a text is read as that has lines behind it, and its first fault. Source: this project.
use Rattle.std.specs.Prelude.{ℕ, ◌≡◌, ◌+◌, ◌<◌, List, length, take, Option}
use Rattle.answer_texts.specs.LineParts.{IsBadOrMissingLine}
use Rattle.answer_texts.specs.ReadAnswers.{IsAnswerFault, ReadsAnswer}
use Rattle.answer_texts.specs.declared.answers.AnswerText.{AnswerText}
use Rattle.text_core.specs.Lines.{HasLines, IsFirstLineFault, Line, line_at}
use Rattle.text_core.specs.declared.faults.Kind.{Kind}
use Rattle.least_launch.specs.TailLines.{tail_words}
use Rattle.least_launch.specs.TailParts.{AreTails, TailsFault}
use Rattle.least_launch.specs.declared.tails.Tail.{Tail}

abbrev pub IsTailWord : List Line → ℕ → Type 0
IsTailWord lines at = (line_at lines at).words ≡ tail_words

-- the first line that is `tail`
pub record IsTailAt (lines : List Line) (at : ℕ) : Type 0 where
  pub within : at < length lines
  pub is : IsTailWord lines at
  pub first : (other : ℕ) → other < at → ¬ IsTailWord lines other

abbrev pub HasNoTail : List Line → Type 0
HasNoTail lines = (at : ℕ) → at < length lines → ¬ IsTailWord lines at

-- the bytes in front of a line
abbrev pub bytes_in_front : List ℕ → List Line → ℕ → List ℕ
bytes_in_front text lines at = take (line_at lines at).place text

-- The text is lines. Those in front of the first `tail` say the answer, and those behind it say something of each of
-- its goals that is scheduled, and nothing else.
pub record ReadsTailed (text : List ℕ) (answer : AnswerText) (said : List (Option Tail)) : Type 0 where
  pub lines : List Line
  pub split : HasLines text lines
  pub at : ℕ
  pub begins : IsTailAt lines at
  pub front : ReadsAnswer (bytes_in_front text lines at) answer
  pub says : AreTails lines (at + 1) (length lines) answer.goals said

-- A byte that no line has, then an empty word or a last line without line feed. Then the first fault of what stands in
-- front of the first `tail`, or of the whole text where there is none. Where that is an answer, the first fault of the
-- lines behind `tail`; or the end of the text, where `tail` is missing.
pub data IsTailedFault (text : List ℕ) (place : ℕ) (kind : Kind) : Type 0 where
  of_lines : IsFirstLineFault text place kind → IsTailedFault text place kind
  of_answer : {lines : List Line} {at : ℕ} → HasLines text lines → IsTailAt lines at
      → IsAnswerFault (bytes_in_front text lines at) place kind → IsTailedFault text place kind
  of_tail : {lines : List Line} {at : ℕ} {answer : AnswerText} → HasLines text lines → IsTailAt lines at
      → ReadsAnswer (bytes_in_front text lines at) answer → TailsFault lines answer.goals (at + 1) place kind
      → IsTailedFault text place kind
  of_whole : {lines : List Line} → HasLines text lines → HasNoTail lines → IsAnswerFault text place kind
      → IsTailedFault text place kind
  missing : {lines : List Line} {answer : AnswerText} → HasLines text lines → HasNoTail lines
      → ReadsAnswer text answer → IsBadOrMissingLine lines (length lines) place kind → IsTailedFault text place kind
