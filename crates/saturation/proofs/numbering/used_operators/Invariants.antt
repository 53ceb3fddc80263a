use Rattle.std.proofs.Common.{◌≡◌, take}
use Rattle.saturation.specs.Numbered.{firsts, indexes_of}
use Rattle.saturation.proofs.numbering.used_operators.Given as goal

abbrev pub invariant-loop-at : goal.invariant-loop-at
invariant-loop-at l = l.used.items ≡ firsts (indexes_of (take l.at l.graph.rows))
