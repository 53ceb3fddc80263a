use Rattle.denali_run.specs.ClaimedResults.{answer_to}
use Rattle.least_launch.proofs.SaidPrinted.{all_printable}
use Rattle.least_launch.proofs.TailedBack.{reads_tailed}
use Rattle.least_launch.proofs.laws.tailed_answers_are_read.Goals as goal

pub returns : goal.returns
returns c = λ s input results said is set starts right each.
    reads_tailed c.printed_lines_are_lines.ensures.lines c.printed_lines_are_read_back.ensures.among
    c.printed_lines_are_lines.ensures.number c.printed_lines_are_read_back.ensures.lines
    c.printed_lines_are_lines.ensures.each (answer_to s input results)
    (c.right_answers_are_read.ensures s input results is set starts right) said
    (all_printable c.printed_lines_are_read_back.ensures.accepted c.fitting_schedules_are_small.ensures.few input s
    is.table
    set input.goals results said right each)
