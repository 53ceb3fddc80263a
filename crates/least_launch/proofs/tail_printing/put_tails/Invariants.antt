use Rattle.std.proofs.Common.{◌≡◌, ◌++◌, take}
use Rattle.std.specs.List.{flat_map}
use Rattle.text_core.specs.LineTexts.{lines_text}
use Rattle.least_launch.specs.TailLines.{goal_tail_lines}
use Rattle.least_launch.proofs.tail_printing.put_tails.Given as goal

-- behind `tail` stands what is said of the goals so far
abbrev pub invariant-loop-tail : goal.invariant-loop-tail
invariant-loop-tail l =
    l.text.items ≡ l.initial.text.items ++ lines_text (flat_map goal_tail_lines (take l.tail-index l.said))
