use Rattle.std.proofs.Common.{ℕ, length}
use Rattle.egraph.specs.Tables.{IsTracked}
use Rattle.egraph.proofs.twins.next_twins.Given as goal

abbrev pub invariant-loop-place : goal.invariant-loop-place
invariant-loop-place g l = (k : ℕ) → IsTracked g.O.Operator.signature l.rows l.initial.index l.initial.waiting.items k → IsTracked g.O.Operator.signature l.rows l.index l.waiting.items k

abbrev pub decreases-loop-place : goal.decreases-loop-place
decreases-loop-place g l = length l.waiting.items
