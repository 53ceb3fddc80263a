-- One text has one list of right results.
use Rattle.std.proofs.Common.{◌≡◌, ◌∙◌, List, sym, ap}
use Rattle.std.specs.List.{AllZip}
use Rattle.std.proofs.lemmas.Grind.{flat_map-append}
use Rattle.goal_meaning.specs.Views.{InputTree}
use Rattle.goal_meaning.specs.WellFormed.{IsInput}
use Rattle.text_core.specs.LineTexts.{Words, line_text, lines_text}
use Rattle.denali_run.specs.ClaimedResults.{answer_text}
use Rattle.denali_run.proofs.ResultLines.{goals_lines, whole_head, same_answer}
use Rattle.denali_run.specs.MatchedGoals.{IsSettings}
use Rattle.denali_run.specs.Right.{Right}
use Rattle.denali_run.specs.declared.results.Answered.{Answered}
use Rattle.denali_run.specs.declared.settings.Settings.{Settings}
use Rattle.denali_run.proofs.LineWords.{each_line}
use Rattle.denali_run.proofs.LinesApart.{lines_once}
use Rattle.denali_run.proofs.PrintedAnswers.{goals_can}
use Rattle.denali_run.proofs.ReadBackLaws.{Laws}
use Rattle.denali_run.proofs.SameAnswers.{goals_once}
use Rattle.denali_run.proofs.SameParts.{append_same}

pub results_once : Laws → (s : Settings) (input : InputTree) (results others : List Answered)
    → IsInput input → IsSettings s → AllZip (λ goal answered. Right input goal s answered) input.goals results
    → AllZip (λ goal answered. Right input goal s answered) input.goals others
    → answer_text s input results ≡ answer_text s input others → results ≡ others
results_once laws s input results others is set right also same =
    let head : List Words = whole_head s input in
    let lines : List Words = goals_lines input.table input.goals results in
    let more : List Words = goals_lines input.table input.goals others in
    goals_once laws input s is set input.goals results others is.goals right also
    (lines_once laws.printed_lines laws.one_text lines more
    (each_line (goals_can laws input s is set input.goals results is.goals right))
    (each_line (goals_can laws input s is set input.goals others is.goals also))
    (append_same (lines_text head) (lines_text lines) (lines_text more)
    (sym (flat_map-append line_text head lines) ∙ ap lines_text (same_answer s input results) ∙ same
    ∙ sym (ap lines_text (same_answer s input others)) ∙ flat_map-append line_text head more)))
