use Rattle.text_core.specs.LineIndex.{IsSplitTo}
use Rattle.text_core.proofs.splitter.split.Given as goal

abbrev pub invariant-loop-at : goal.invariant-loop-at
invariant-loop-at l = IsSplitTo l.text l.at l.splitter.line l.splitter.start l.splitter.words.items l.splitter.firsts.items l.splitter.first
