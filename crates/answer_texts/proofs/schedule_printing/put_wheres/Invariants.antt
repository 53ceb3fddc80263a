use Rattle.std.proofs.Common.{◌≡◌, ◌++◌, take, map}
use Rattle.text_core.specs.LineTexts.{lines_text}
use Rattle.answer_texts.specs.AnswerLines.{where_words}
use Rattle.answer_texts.proofs.schedule_printing.put_wheres.Given as goal

abbrev pub invariant-loop-place : goal.invariant-loop-place
invariant-loop-place l = l.text.items ≡ l.initial.text.items ++ lines_text (map where_words (take l.place-index l.wheres))
