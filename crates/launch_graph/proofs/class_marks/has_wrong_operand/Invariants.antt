use Rattle.std.proofs.Common.{◌≡◌, ◌<◌, ℕ, List, length, Some}
use Rattle.std.specs.Prelude.{slice_get}
use Rattle.launch_graph.specs.declared.row_lines.RowLine.{RowLine}
use Rattle.launch_graph.specs.RowFaults.{IsWrongClass, sort_taken}
use Rattle.launch_graph.specs.ClassMarks.{AreMarks}
use Rattle.launch_graph.proofs.class_marks.has_wrong_operand.Given as goal

abbrev pub invariant-loop-at : goal.invariant-loop-at
invariant-loop-at l = (rows : List RowLine) → AreMarks (length l.marks) rows l.marks → (at class : ℕ) → at < l.at → slice_get l.row.operands at ≡ Some class → IsWrongClass (length l.marks) rows (sort_taken l.row.op at) class → ⊥
