use Rattle.answer_texts.proofs.HexInstrWords.{word_line}
use Rattle.answer_texts.proofs.laws.word_lines_can_be_lines.Goals as goal

pub returns : goal.returns
returns c =
    word_line c.printed_lines_are_lines.ensures.number c.operators_are_listed.ensures.each
    c.words_and_instructions.ensures.forth
