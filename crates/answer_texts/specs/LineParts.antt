-- Parts of a text of lines, one behind another: from which line to which other a part stands and what it says, and the
-- first fault of lines that aren't that part. Source: this project.
use Rattle.std.specs.Prelude.{ℕ, ◌≡◌, ◌≢◌, ◌+◌, ◌<◌, ◌≤◌, List, [], ◌∷◌, ◌++◌, length, map}
use Rattle.text_core.specs.Lines.{Line, line_at, line_word, BeginsAt}
use Rattle.text_core.specs.LineTexts.{Words, SaysNone}
use Rattle.text_core.specs.declared.faults.Kind.{Kind}
use Rattle.text_core.specs.declared.faults.Kind.TheVariants.{BadLine}
use Rattle.launch_graph.specs.LineFormats.{words_between}

-- BadLine where a line begins, or at the end of the text in place of a missing line
pub record IsBadOrMissingLine (lines : List Line) (at place : ℕ) (kind : Kind) : Type 0 where
  pub within : at ≤ length lines
  pub placed : BeginsAt lines at place
  pub named : kind ≡ BadLine

-- ---- one line

-- the line is of this kind
pub record IsOneLine {X : Type 0} (Is : Words → X → Type 0) (lines : List Line) (from next : ℕ) (x : X) : Type 0 where
  pub within : from < length lines
  pub is : Is (line_at lines from).words x
  pub behind : next ≡ from + 1

-- the line is missing, or of another kind
pub record IsNoLine {X : Type 0} (Is : Words → X → Type 0) (lines : List Line) (from place : ℕ) (kind : Kind)
    : Type 0 where
  pub none : from < length lines → SaysNone Is (line_at lines from).words
  pub fault : IsBadOrMissingLine lines from place kind

-- ---- lines of one kind, which begin with a word

-- these lines are those of these values, which fit together
pub record AreLinesTo {X : Type 0} (words_of : X → Words) (Fit : List X → Type 0) (lines : List Line) (from next : ℕ)
    (values : List X) : Type 0 where
  pub order : from ≤ next
  pub within : next ≤ length lines
  pub words : words_between lines from next ≡ map words_of values
  pub fit : Fit values

-- and no line that begins with the word stands behind them
pub record AreLinesOf {X : Type 0} (first : List ℕ) (words_of : X → Words) (Fit : List X → Type 0) (lines : List Line)
    (from next : ℕ) (values : List X) : Type 0 where
  pub so_far : AreLinesTo words_of Fit lines from next values
  pub ends : next < length lines → line_word lines next 0 ≢ first

-- behind some of them a line begins with the word and is that of no value which fits behind the others
pub record HasBadLine {X : Type 0} (first : List ℕ) (words_of : X → Words) (Fit : List X → Type 0) (lines : List Line)
    (from place : ℕ) (kind : Kind) : Type 0 where
  pub at : ℕ
  pub before : List X
  pub so_far : AreLinesTo words_of Fit lines from at before
  pub within : at < length lines
  pub begins : line_word lines at 0 ≡ first
  pub none : (value : X) → (line_at lines at).words ≡ words_of value → Fit (before ++ value ∷ []) → ⊥
  pub fault : IsBadOrMissingLine lines at place kind

-- ---- one part behind another

-- a part, and behind it another, which may depend on what the first one says
pub record Leads {X Y : Type 0} (First : ℕ → ℕ → X → Type 0) (Second : X → ℕ → ℕ → Y → Type 0) (from next : ℕ) (y : Y)
    : Type 0 where
  pub middle : ℕ
  pub said : X
  pub first : First from middle said
  pub second : Second said middle next y

-- no line, and this value
pub record Says {X : Type 0} (value : X) (from next : ℕ) (said : X) : Type 0 where
  pub stays : next ≡ from
  pub is : said ≡ value

-- the fault of the first part, or behind it that of the second
pub data LeadsFault {X : Type 0} (First : ℕ → ℕ → X → Type 0) (FirstFault : ℕ → ℕ → Kind → Type 0)
    (SecondFault : X → ℕ → ℕ → Kind → Type 0) (from place : ℕ) (kind : Kind) : Type 0 where
  in_first : FirstFault from place kind → LeadsFault First FirstFault SecondFault from place kind
  in_second : {middle : ℕ} {said : X} → First from middle said → SecondFault said middle place kind
      → LeadsFault First FirstFault SecondFault from place kind

abbrev pub NoFault : ℕ → ℕ → Kind → Type 0
NoFault from place kind = ⊥
