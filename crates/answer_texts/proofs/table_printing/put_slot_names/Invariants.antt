use Rattle.std.proofs.Common.{◌≡◌, ◌++◌, take, map}
use Rattle.launch_graph.specs.LineParts.{words_behind}
use Rattle.answer_texts.specs.AnswerLines.{name_among}
use Rattle.answer_texts.proofs.table_printing.put_slot_names.Given as goal

abbrev pub invariant-loop-slot : goal.invariant-loop-slot
invariant-loop-slot l = l.text.items ≡ l.initial.text.items ++ words_behind (map (name_among l.slots) (take l.slot-index l.used))
