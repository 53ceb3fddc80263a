use Rattle.std.proofs.Common.{◌≡◌, ◌++◌, take, map}
use Rattle.text_core.specs.LineTexts.{lines_text}
use Rattle.launch_graph.specs.GraphLines.{said_row}
use Rattle.launch_graph.specs.RowLines.{row_words}
use Rattle.launch_graph.proofs.printing.put_rows.Given as goal

abbrev pub invariant-loop-row : goal.invariant-loop-row
invariant-loop-row l =
    l.text.items ≡ l.initial.text.items ++ lines_text (map (λ r. row_words (said_row r)) (take l.row-index l.rows))
