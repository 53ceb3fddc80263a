use Rattle.std.proofs.Common.{◌++◌, codes}
use Rattle.alpha_encode.specs.Texts.{text_of}
use Rattle.text_core.specs.Lines.{line_at}
use Rattle.answer_texts.proofs.HexInstrTexts.{IsLeft}
use Rattle.answer_texts.proofs.word_lines.has_text.Given as goal

-- What is left of the text is for the words that are left.
abbrev pub invariant-loop-at : goal.invariant-loop-at
invariant-loop-at l = IsLeft (line_at l.text l.line).words l.at (codes " " ++ text_of l.fn.instr) l.rest
