use Rattle.std.proofs.Common.{◌≡◌, ◌++◌, map, take}
use Rattle.proc_goal.specs.Views.{block_view}
use Rattle.text_core.specs.LineTexts.{lines_text}
use Rattle.proc_link.specs.LinkedLines.{block_lines}
use Rattle.proc_link.proofs.line_printing.put_starts.Given as goal

-- the lines of the blocks so far stand behind the old text
abbrev pub invariant-loop-at : goal.invariant-loop-at
invariant-loop-at l =
    l.text.items ≡ l.fn.text.items ++ lines_text (block_lines (map block_view (take l.at l.blocks)) (take l.at l.starts))
