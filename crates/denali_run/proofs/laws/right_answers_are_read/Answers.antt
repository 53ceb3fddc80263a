use Rattle.denali_run.specs.ClaimedResults.{answer_to}
use Rattle.denali_run.proofs.PrintableAnswers.{answers_can_be_printed}
use Rattle.denali_run.proofs.laws.right_answers_are_read.Goals as goal

pub returns : goal.returns
returns c = λ s input results is set small right.
    c.printed_answers_are_read.ensures.read (answer_to s input results)
    (answers_can_be_printed c.tables_keep_limits.ensures.slot
    c.printed_lines_are_read_back.ensures.accepted input s is set results small right)
