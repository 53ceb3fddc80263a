use Rattle.std.proofs.Common.{◌≡◌, ◌++◌, take, map}
use Rattle.text_core.specs.LineTexts.{lines_text}
use Rattle.answer_texts.specs.AnswerLines.{launch_words}
use Rattle.answer_texts.proofs.schedule_printing.put_launches.Given as goal

abbrev pub invariant-loop-launch : goal.invariant-loop-launch
invariant-loop-launch l = l.text.items ≡ l.initial.text.items ++ lines_text (map (launch_words l.table l.graph) (take l.launch-index l.launches))
