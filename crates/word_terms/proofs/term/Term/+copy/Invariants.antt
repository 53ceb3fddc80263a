use Rattle.std.proofs.Common.{◌≡◌, take}
use Rattle.word_terms.specs.View.{trees_of}
use Rattle.word_terms.proofs.term.Term.+copy.Given as goal

abbrev pub invariant-loop-operand : goal.invariant-loop-operand
invariant-loop-operand g l = trees_of l.copies.items ≡ trees_of (take l.operand-index l.operand-items)
