use Rattle.text_core.proofs.Printing.{lines_of, text_of_lines, lines_placed, lines_can_be, number_word, name_word}
use Rattle.text_core.proofs.laws.printed_lines_are_lines.Goals as goal

pub returns : goal.returns
returns c = record {
  lines = lines_of;
  printed = λ place lines text are. text_of_lines are;
  placed = λ place lines text are. lines_placed are;
  each = λ place lines text are. lines_can_be are;
  number = number_word;
  name = name_word;
}
