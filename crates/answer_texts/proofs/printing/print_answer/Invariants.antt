use Rattle.std.proofs.Common.{◌≡◌, ◌++◌, take}
use Rattle.std.specs.List.{flat_map}
use Rattle.text_core.specs.LineTexts.{lines_text}
use Rattle.answer_texts.specs.AnswerLines.{goal_lines, head_lines}
use Rattle.answer_texts.proofs.printing.print_answer.Given as goal

-- the head, and the lines of the goals so far
abbrev pub invariant-loop-goal : goal.invariant-loop-goal
invariant-loop-goal l =
    l.text.items
    ≡ lines_text (head_lines l.answer.version l.answer.encoding l.answer.table l.answer.builtin l.answer.library)
    ++ lines_text (flat_map (goal_lines l.answer.table) (take l.goal-index l.answer.goals))
