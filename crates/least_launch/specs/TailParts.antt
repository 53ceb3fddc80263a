-- The grammar of the lines behind an answer: which lines say what of the goals, and the first fault of lines that
-- don't. Source: this project.
use Rattle.std.specs.Prelude.{ℕ, ◌≡◌, ◌<◌, ◌≤◌, ◌^◌, List, [], ◌∷◌, ◌++◌, length, Option, Some, None}
use Rattle.answer_texts.specs.AnswerParts.{AreCounted, IsCountedFault}
use Rattle.answer_texts.specs.LineParts.{IsBadOrMissingLine, IsNoLine, IsOneLine, Leads, LeadsFault, NoFault, Says}
use Rattle.answer_texts.specs.declared.answers.Claim.{Claim}
use Rattle.answer_texts.specs.declared.answers.Claim.TheVariants.{Scheduled}
use Rattle.answer_texts.specs.declared.answers.Claimed.{Claimed}
use Rattle.text_core.specs.LineTexts.{Words}
use Rattle.text_core.specs.Lines.{Line}
use Rattle.text_core.specs.declared.faults.Kind.{Kind}
use Rattle.least_launch.specs.TailLines.{least_words, large_words, spent_words}
use Rattle.least_launch.specs.declared.tails.Tail.{Tail}
use Rattle.least_launch.specs.declared.tails.Tail.TheVariants as tails
use Rattle.least_launch.specs.declared.tails.TailLine.{TailLine}
use Rattle.least_launch.specs.declared.tails.TailLine.TheVariants as lines_of

-- The first line of what is said of a goal. Without launches there is `least 0 0` alone.
abbrev pub IsTailLine : Words → TailLine → Type 0
IsTailLine words (lines_of.Least launches count) =
    (launches < 2 ^ 31) × (count < 2 ^ 31) × (launches ≡ 0 → count ≡ 0) × (words ≡ least_words launches count)
IsTailLine words (lines_of.Spent launches count) =
    (1 ≤ launches) × (launches < 2 ^ 31) × (count < 2 ^ 31) × (words ≡ spent_words launches count)
IsTailLine words (lines_of.Size launches vars clauses) =
    (1 ≤ launches) × (launches < 2 ^ 31) × (vars < 2 ^ 64) × (clauses < 2 ^ 64)
    × (words ≡ large_words launches vars clauses)

-- what stands behind that line
abbrev pub TailRest : List Line → TailLine → ℕ → ℕ → Tail → Type 0
TailRest lines (lines_of.Least launches count) =
    Leads (AreCounted lines count) (λ read. Says (tails.Least launches read))
TailRest lines (lines_of.Spent launches count) =
    Leads (AreCounted lines count) (λ read. Says (tails.Spent launches read))
TailRest lines (lines_of.Size launches vars clauses) = Says (tails.Size launches vars clauses)

abbrev pub TailRestFault : List Line → TailLine → ℕ → ℕ → Kind → Type 0
TailRestFault lines (lines_of.Least launches count) =
    LeadsFault (AreCounted lines count) (IsCountedFault lines count) (λ read. NoFault)
TailRestFault lines (lines_of.Spent launches count) =
    LeadsFault (AreCounted lines count) (IsCountedFault lines count) (λ read. NoFault)
TailRestFault lines (lines_of.Size launches vars clauses) = NoFault

-- what is said of one goal
abbrev pub OneTailPart : List Line → ℕ → ℕ → Tail → Type 0
OneTailPart lines = Leads (IsOneLine IsTailLine lines) (TailRest lines)

abbrev pub OneTailFault : List Line → ℕ → ℕ → Kind → Type 0
OneTailFault lines = LeadsFault (IsOneLine IsTailLine lines) (IsNoLine IsTailLine lines) (TailRestFault lines)

-- of a goal that is scheduled something is said, and of others nothing
abbrev pub GoalTailPart : List Line → Claim → ℕ → ℕ → Option Tail → Type 0
GoalTailPart lines (Scheduled k schedule words places) = Leads (OneTailPart lines) (λ tail. Says (Some tail))
GoalTailPart lines claim = Says None

abbrev pub GoalTailFault : List Line → Claim → ℕ → ℕ → Kind → Type 0
GoalTailFault lines (Scheduled k schedule words places) = OneTailFault lines
GoalTailFault lines claim = NoFault

-- what is said of goals one behind another
pub data AreTails (lines : List Line) (from : ℕ) : ℕ → List Claimed → List (Option Tail) → Type 0 where
  no_goals : AreTails lines from from [] []
  more : {middle next : ℕ} {goals : List Claimed} {said : List (Option Tail)} (goal : Claimed) (tail : Option Tail)
      → AreTails lines from middle goals said → GoalTailPart lines goal.claim middle next tail
      → AreTails lines from next (goals ++ goal ∷ []) (said ++ tail ∷ [])

-- behind what is said of some goals, the fault of the next goal's lines; or a line behind those of all goals
pub data TailsFault (lines : List Line) (goals : List Claimed) (from place : ℕ) (kind : Kind) : Type 0 where
  in_goal : {at : ℕ} {said : List (Option Tail)} (before behind : List Claimed) (goal : Claimed)
      → goals ≡ before ++ goal ∷ behind → AreTails lines from at before said
      → GoalTailFault lines goal.claim at place kind → TailsFault lines goals from place kind
  behind_all : {at : ℕ} {said : List (Option Tail)} → AreTails lines from at goals said → at < length lines
      → IsBadOrMissingLine lines at place kind → TailsFault lines goals from place kind
