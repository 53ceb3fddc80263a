-- The faults of a text of lines, and which comes first. It serves each format whose lines may have a graph among them.
-- Source: this project.
use Rattle.std.specs.Prelude.{ℕ, ◌≡◌, ◌⊎◌, ◌+◌, ◌<◌, ◌≤◌, List, [], ◌∷◌, length, take, drop, codes, decimal}
use Rattle.word_ops.specs.declared.sorts.Sort.{Sort}
use Rattle.text_core.specs.Lines.{Line, line_at, BeginsAt}
use Rattle.text_core.specs.declared.faults.Kind.{Kind}
use Rattle.text_core.specs.declared.faults.Kind.TheVariants.{BadLine, BadRow, BadClass}
use Rattle.launch_graph.specs.declared.row_lines.RowLine.{RowLine}
use Rattle.text_core.specs.LineTexts.{Words}
use Rattle.launch_graph.specs.LineFormats.{GoesOn, words_between}
use Rattle.launch_graph.specs.RowLines.{IsRowLine}
use Rattle.launch_graph.specs.RowFaults.{IsBadRow, IsBadClass, IsWrongClass}
use Rattle.launch_graph.specs.GraphTexts.{IsClassLine, BeginsWithGraph, IsGraphText}

-- the lines that have the form of a row, in order
pub data AreRowLines : List Line → List RowLine → Type 0 where
  none : AreRowLines [] []
  row : {line : Line} {lines : List Line} {one : RowLine} {rows : List RowLine}
      → IsRowLine line.words one → AreRowLines lines rows → AreRowLines (line ∷ lines) (one ∷ rows)
  other : {line : Line} {lines : List Line} {rows : List RowLine}
      → ((one : RowLine) → IsRowLine line.words one → ⊥) → AreRowLines lines rows → AreRowLines (line ∷ lines) rows

-- The rows of a graph: from this line on so many lines are to be rows. `all` are those that have the form of one.
pub record IsBlock (lines : List Line) (first count : ℕ) (all : List RowLine) : Type 0 where
  pub header : ℕ
  pub begins : first ≡ header + 1
  pub within : header < length lines
  pub says : (line_at lines header).words ≡ codes "rows" ∷ decimal count ∷ []
  pub few : count ≤ 1000000
  pub are : AreRowLines (take count (drop first lines)) all

-- a row of a block, by its number from 0, and the rows of the block before it
pub record IsRowAt (lines : List Line) (first count number : ℕ) (before : List RowLine) (row : RowLine) : Type 0 where
  pub among : number < count
  pub within : first + number < length lines
  pub is : IsRowLine (line_at lines (first + number)).words row
  pub before_are : AreRowLines (take number (drop first lines)) before

-- Among these lines there is no header of another block.
abbrev pub HasNoHeader : List Line → ℕ → ℕ → Type 0
HasNoHeader lines from to = (n : ℕ) → from ≤ n → n < to → (words : Words)
    → (line_at lines n).words ≡ codes "rows" ∷ words → ⊥

-- A fault at the line of this number, where the lines from `from` on are to begin with a text of the format. `IsText`
-- are the lines of such a text and what may stand behind it, `IsPart` those of the text alone. A number past the last
-- line says that a line is missing.
pub data IsFaultAt (IsText IsPart : List Words → Type 0) (lines : List Line) (from : ℕ) : ℕ → Kind → Type 0 where
  bad_line : {at : ℕ} → from ≤ at → at < length lines → GoesOn IsText (words_between lines from at)
      → (GoesOn IsText (words_between lines from (at + 1)) → ⊥) → IsFaultAt IsText IsPart lines from at BadLine
  missing : {at : ℕ} → at ≡ length lines → GoesOn IsText (words_between lines from at)
      → (IsText (words_between lines from at) → ⊥) → IsFaultAt IsText IsPart lines from at BadLine
  bad_row : {first count number at : ℕ} {all before : List RowLine} {row : RowLine} → from < first
      → IsBlock lines first count all
      → IsRowAt lines first count number before row → at ≡ first + number
      → GoesOn IsPart (words_between lines from (at + 1))
      → IsBadRow before row → IsFaultAt IsText IsPart lines from at BadRow
  bad_class : {first count number at : ℕ} {all before : List RowLine} {row : RowLine} → from < first
      → IsBlock lines first count all
      → IsRowAt lines first count number before row → at ≡ first + number
      → GoesOn IsPart (words_between lines from (at + 1))
      → IsBadClass count all before row → IsFaultAt IsText IsPart lines from at BadClass
  wrong_class : {first count at class : ℕ} {all : List RowLine} {sort : Sort} → from < first
      → IsBlock lines first count all
      → first + count ≤ at → at < length lines → HasNoHeader lines first at
      → GoesOn IsPart (words_between lines from (at + 1))
      → IsClassLine (line_at lines at).words class sort → IsWrongClass count all sort class
      → IsFaultAt IsText IsPart lines from at BadClass

-- the order of kinds on one line
abbrev pub line_rank : Kind → ℕ
line_rank BadLine = 0
line_rank BadRow = 1
line_rank _ = 2

-- The first faulty line decides, and on one line BadLine comes before BadRow, and BadRow before BadClass.
pub record IsFirstFault (IsText IsPart : List Words → Type 0) (lines : List Line) (from place : ℕ) (kind : Kind)
    : Type 0 where
  pub at : ℕ
  pub found : IsFaultAt IsText IsPart lines from at kind
  pub placed : BeginsAt lines at place
  pub earliest : (other : ℕ) (another : Kind) → IsFaultAt IsText IsPart lines from other another
      → (at < other) ⊎ ((at ≡ other) × (line_rank kind ≤ line_rank another))

-- The fault of a graph in the version among the lines from a number on.
abbrev pub IsFirstFaultOf : ℕ → List Line → ℕ → ℕ → Kind → Type 0
IsFirstFaultOf version lines from place kind =
    IsFirstFault (BeginsWithGraph version) (IsGraphText version) lines from place kind

-- the same in version 1
abbrev pub IsFirstGraphFault : List Line → ℕ → ℕ → Kind → Type 0
IsFirstGraphFault lines from place kind = IsFirstFaultOf 1 lines from place kind
