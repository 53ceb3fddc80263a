use Rattle.saturation.proofs.ClassNumbers.{SoFar}
use Rattle.saturation.proofs.numbering.class_numbers.Given as goal

abbrev pub invariant-loop-at : goal.invariant-loop-at
invariant-loop-at l = SoFar l.graph l.at l.numbers.items l.seen.items
