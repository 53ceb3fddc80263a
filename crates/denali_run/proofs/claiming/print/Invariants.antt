use Rattle.std.proofs.Common.{◌≡◌, ◌++◌, map, take}
use Rattle.std.specs.List.{flat_map}
use Rattle.answer_texts.specs.AnswerLines.{goal_lines, head_lines}
use Rattle.goal_meaning.specs.Views.{goal_view}
use Rattle.text_core.specs.LineTexts.{lines_text}
use Rattle.denali_run.specs.ClaimedResults.{encoding_number, goals_claimed, version_of}
use Rattle.denali_run.specs.Encodings.{encoding_in}
use Rattle.denali_run.proofs.claiming.print.Given as goal

-- the head, and the lines of what is claimed of the goals so far
abbrev pub invariant-loop-at : goal.invariant-loop-at
invariant-loop-at l =
    l.text.items
    ≡ lines_text (head_lines (version_of (encoding_in l.settings)) (encoding_number (encoding_in l.settings)) l.input.table
    l.input.builtin l.settings.library)
    ++ lines_text (flat_map (goal_lines l.input.table) (goals_claimed (map goal_view l.input.goals) (take l.at l.results)))
