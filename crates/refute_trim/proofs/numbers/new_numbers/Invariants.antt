use Rattle.refute_trim.proofs.Numbering.{AreNumberedTo}
use Rattle.refute_trim.proofs.numbers.new_numbers.Given as goal

abbrev pub invariant-loop-at : goal.invariant-loop-at
invariant-loop-at l = AreNumberedTo l.lines l.needed l.at l.numbers.items l.dropped
