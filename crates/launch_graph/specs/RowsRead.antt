-- The rows of a graph that are read so far, and where a fault of its lines stands. No public clause rests on this.
-- Source: this project.
use Rattle.std.specs.Prelude.{ℕ, ◌≡◌, ◌+◌, ◌-◌, ◌<◌, ◌≤◌, List, [], length, take, drop}
use Rattle.text_core.specs.Lines.{Line, line_at, BeginsAt}
use Rattle.text_core.specs.declared.faults.Kind.{Kind}
use Rattle.text_core.specs.declared.faults.TextFault.{TextFault}
use Rattle.text_core.specs.declared.faults.TextFault.TheVariants as faults
use Rattle.launch_graph.specs.declared.class_marks.Mark.{Mark}
use Rattle.launch_graph.specs.declared.row_lines.LineOp.{LineOp}
use Rattle.launch_graph.specs.declared.row_lines.LineOp.TheVariants.{Plain, Use, Unknown}
use Rattle.launch_graph.specs.declared.row_lines.RowLine.{RowLine}
use Rattle.launch_graph.specs.declared.rows_reading.RowsSoFar.{RowsSoFar}
use Rattle.launch_graph.specs.ClassMarks.{AreMarks}
use Rattle.launch_graph.specs.CleanLines.{IsClean}
use Rattle.launch_graph.specs.GraphStages.{rows}
use Rattle.launch_graph.specs.GraphLines.{rows_words}
use Rattle.launch_graph.specs.LineFaults.{AreRowLines}
use Rattle.launch_graph.specs.Numbering.{AreNumbered}
use Rattle.launch_graph.specs.SeenRows.{IsSeen}

-- a fault of this kind at the line of this number
pub record IsFaultOfLine (lines : List Line) (at : ℕ) (kind : Kind) (fault : TextFault) : Type 0 where
  pub place : ℕ
  pub is : fault ≡ faults.Fault (record { place = place; kind = kind })
  pub placed : BeginsAt lines at place

-- the name of the operator of a row, and nothing where it is no declared one
abbrev pub line_op_name : LineOp → List ℕ
line_op_name (Plain op) = []
line_op_name (Use name) = name
line_op_name (Unknown word) = word

-- up to a line, the rows of a block are read, and nothing is wrong
pub record AreRowsTo (version : ℕ) (lines : List Line) (from : ℕ) (all before : List RowLine) (marks : List Mark) (at : ℕ)
    (so_far : RowsSoFar) : Type 0 where
  pub clean : IsClean version lines from (length marks) all before at (rows (length marks - length before))
  pub place_is : at ≡ from + 1 + length before
  pub marks_are : AreMarks (length marks) all marks
  pub seen : IsSeen (length marks) before so_far.next so_far.constants.items
  pub numbered : AreNumbered before so_far.used so_far.index so_far.rows

-- A block of so many rows begins behind the line `from`; `all` are its rows, and `marks` are theirs.
pub record IsBlockFrom (lines : List Line) (from : ℕ) (all : List RowLine) (marks : List Mark) (first : ℕ)
    : Type 0 where
  pub first_is : first ≡ from + 1
  pub low : from < length lines
  pub header_is : (line_at lines from).words ≡ rows_words (length marks)
  pub few : length marks ≤ 1000000
  pub are : AreRowLines (take (length marks) (drop (from + 1) lines)) all
  pub marks_are : AreMarks (length marks) all marks

-- Whatever block begins there, so many of its rows are read.
abbrev pub HasRead : List Line → List Mark → ℕ → ℕ → RowsSoFar → Type 0
HasRead lines marks first number so_far =
    (version from : ℕ) (all : List RowLine) → IsBlockFrom lines from all marks first
    → (before : List RowLine) × AreRowsTo version lines from all before marks (first + number) so_far × (length before ≡ number)
