use Rattle.std.proofs.Common.{◌≡◌, take}
use Rattle.word_terms.specs.View.{trees_of}
use Rattle.word_terms.proofs.term.+same.Given as goal

abbrev pub invariant-loop-i : goal.invariant-loop-i
invariant-loop-i g l = trees_of (take l.i l.x-items) ≡ trees_of (take l.i l.ys.items)
