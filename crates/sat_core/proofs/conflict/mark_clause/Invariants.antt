use Rattle.std.proofs.Common.{take}
use Rattle.sat_core.specs.Walks.{MarksClause}
use Rattle.sat_core.proofs.conflict.mark_clause.Given as goal

abbrev pub invariant-loop-lit : goal.invariant-loop-lit
invariant-loop-lit l = MarksClause l.indices (take l.lit-index l.clause) l.clause l.last l.initial.seen l.seen l.added
