use Rattle.std.proofs.Common.{ℕ, ◌<◌, ◌≡◌, length, slice_index, Contains}
use Rattle.egraph.specs.declared.rows.Row.{Row}
use Rattle.schedule_cases.proofs.building.fit.Given as goal

abbrev pub invariant-loop-at : goal.invariant-loop-at
invariant-loop-at g l = (k : ℕ) → k < l.at → record {
  made : slice_index l.operands k < length l.graph.current;
  sorts : (t : Row g.row.O.Denot) → Contains l.graph.rows t → t.class ≡ slice_index l.graph.current (slice_index l.operands k) → g.O.Operator.signature.operand_sort l.op k ≡ g.O.Operator.signature.sort t.op;
}
