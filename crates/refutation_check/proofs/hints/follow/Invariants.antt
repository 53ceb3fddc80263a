use Rattle.std.proofs.Common.{true, take}
use Rattle.cnf_core.specs.Refutation.{known_clauses}
use Rattle.refutation_check.specs.Marked.{Follows, NoneIsLater}
use Rattle.refutation_check.proofs.hints.follow.Given as goal

abbrev pub invariant-loop-hint : goal.invariant-loop-hint
invariant-loop-hint l = NoneIsLater l.line l.marks × Follows true (known_clauses l.cnf.clauses l.earlier) (take l.hint-index l.hints) l.line l.initial.marks l.marks
