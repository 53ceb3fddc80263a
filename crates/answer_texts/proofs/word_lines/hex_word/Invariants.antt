use Rattle.answer_texts.proofs.HexDigits.{IsFront}
use Rattle.answer_texts.proofs.word_lines.hex_word.Given as goal

-- The word has the digits so far.
abbrev pub invariant-loop-byte : goal.invariant-loop-byte
invariant-loop-byte l = IsFront l.digits l.byte-index l.word
