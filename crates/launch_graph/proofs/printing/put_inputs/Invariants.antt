use Rattle.std.proofs.Common.{◌≡◌, ◌++◌, take, map}
use Rattle.text_core.specs.LineTexts.{lines_text}
use Rattle.launch_graph.specs.GraphLines.{in_words}
use Rattle.launch_graph.proofs.printing.put_inputs.Given as goal

abbrev pub invariant-loop-input : goal.invariant-loop-input
invariant-loop-input l = l.text.items ≡ l.initial.text.items ++ lines_text (map in_words (take l.input-index l.inputs))
