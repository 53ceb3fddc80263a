use Rattle.std.proofs.Common.{◌≡◌, ◌++◌, take, map}
use Rattle.text_core.specs.LineTexts.{lines_text}
use Rattle.launch_graph.specs.GraphLines.{set_words}
use Rattle.launch_graph.proofs.printing.put_sets.Given as goal

abbrev pub invariant-loop-set : goal.invariant-loop-set
invariant-loop-set l = l.text.items ≡ l.initial.text.items ++ lines_text (map set_words (take l.set-index l.sets))
