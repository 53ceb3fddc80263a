use Rattle.std.proofs.Common.{◌≡◌, ◌++◌, take, map}
use Rattle.text_core.specs.LineTexts.{lines_text}
use Rattle.answer_texts.specs.AnswerLines.{inst_words}
use Rattle.answer_texts.proofs.table_printing.put_insts.Given as goal

abbrev pub invariant-loop-one : goal.invariant-loop-one
invariant-loop-one l = l.text.items ≡ l.initial.text.items ++ lines_text (map (inst_words l.slots) (take l.one-index l.uses))
