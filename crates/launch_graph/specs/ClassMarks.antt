-- What is known of each class of a block of rows before its rows are read. No public clause rests on this. Source: this
-- project.
use Rattle.std.specs.Prelude.{ℕ, ◌≡◌, ◌<◌, List, length, Option, Some, None, slice_get, get_or}
use Rattle.text_core.specs.Lines.{Line}
use Rattle.word_ops.specs.declared.sorts.Sort.{Sort}
use Rattle.launch_graph.specs.declared.row_lines.RowLine.{RowLine}
use Rattle.launch_graph.specs.declared.class_marks.Mark.{Mark}
use Rattle.launch_graph.specs.declared.class_marks.Mark.TheVariants.{Absent, Unsorted, Sorted}
use Rattle.launch_graph.specs.RowFaults.{HasRowOfClass, class_sort, sort_taken, IsWrongClass}
use Rattle.launch_graph.specs.LineFaults.{AreRowLines}

-- the lines have these rows and no others
pub record OnlyRows (lines : List Line) (rows : List RowLine) : Type 0 where
  pub are : AreRowLines lines rows
  pub only : (others : List RowLine) → AreRowLines lines others → others ≡ rows

-- what is known of a class among these rows
pub data IsMark (rows : List RowLine) (class : ℕ) : Mark → Type 0 where
  absent : (HasRowOfClass rows class → ⊥) → class_sort rows class ≡ None → IsMark rows class Absent
  unsorted : HasRowOfClass rows class → class_sort rows class ≡ None → IsMark rows class Unsorted
  sorted : {sort : Sort} → HasRowOfClass rows class → class_sort rows class ≡ Some sort
      → IsMark rows class (Sorted sort)

-- what is known of a class once one more row of it is seen
abbrev pub next_mark : Mark → Option Sort → Mark
next_mark (Sorted sort) told = Sorted sort
next_mark Absent None = Unsorted
next_mark Absent (Some sort) = Sorted sort
next_mark Unsorted None = Unsorted
next_mark Unsorted (Some sort) = Sorted sort

-- a mark for each class below the count
pub record AreMarks (count : ℕ) (rows : List RowLine) (marks : List Mark) : Type 0 where
  pub size : length marks ≡ count
  pub each : (class : ℕ) → class < count → IsMark rows class (get_or marks class Absent)

-- the marks of the classes among the rows of so many lines from one on
pub record HasMarks (lines : List Line) (count : ℕ) (marks : List Mark) : Type 0 where
  pub rows : List RowLine
  pub are : OnlyRows lines rows
  pub marks_are : AreMarks count rows marks

-- an operand of the row is a wrong class
abbrev pub HasWrongOperand : ℕ → List RowLine → RowLine → Type 0
HasWrongOperand count rows row =
    (at : ℕ) × (class : ℕ) × (slice_get row.operands at ≡ Some class)
    × IsWrongClass count rows (sort_taken row.op at) class
