use Rattle.std.proofs.Common.{◌≡◌, ◌++◌, ◌-◌}
use Rattle.answer_texts.specs.AnswerLines.{hex_digits}
use Rattle.answer_texts.proofs.hexadecimal.put_hex.Given as goal

-- The digits so far, and then those that are left.
abbrev pub invariant-loop-at : goal.invariant-loop-at
invariant-loop-at l = l.text.items ++ hex_digits (8 - l.at) l.word ≡ l.initial.text.items ++ hex_digits 8 l.word
