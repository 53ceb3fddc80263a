use Rattle.std.proofs.Common.{◌≡◌, ◌++◌, take, map}
use Rattle.text_core.specs.LineTexts.{lines_text}
use Rattle.answer_texts.specs.AnswerLines.{word_words}
use Rattle.answer_texts.proofs.schedule_printing.put_codes.Given as goal

abbrev pub invariant-loop-word : goal.invariant-loop-word
invariant-loop-word l = l.text.items ≡ l.initial.text.items ++ lines_text (map word_words (take l.word-index l.words))
