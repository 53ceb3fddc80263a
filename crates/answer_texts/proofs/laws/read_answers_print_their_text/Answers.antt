use Rattle.answer_texts.proofs.PartsPrintedGoals.{prints_text}
use Rattle.answer_texts.proofs.laws.read_answers_print_their_text.Goals as goal

pub returns : goal.returns
returns c =
    prints_text (λ lines text split. c.printed_lines_are_lines.ensures.printed 0 lines text split)
