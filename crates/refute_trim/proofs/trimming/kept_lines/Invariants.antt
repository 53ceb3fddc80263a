use Rattle.refute_trim.proofs.Numbering.{AreKeptTo}
use Rattle.refute_trim.proofs.trimming.kept_lines.Given as goal

abbrev pub invariant-loop-at : goal.invariant-loop-at
invariant-loop-at l = AreKeptTo l.clauses l.lines l.needed l.numbers l.at l.kept
