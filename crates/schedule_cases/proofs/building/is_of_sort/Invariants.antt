use Rattle.std.proofs.Common.{ℕ, ◌<◌, ◌≡◌, slice_index, slice_index_or}
use Rattle.egraph.specs.declared.rows.Row.{Row}
use Rattle.schedule_cases.proofs.building.is_of_sort.Given as goal

abbrev pub invariant-loop-at : goal.invariant-loop-at
invariant-loop-at g l = (k : ℕ) → k < l.at → (d : Row g.row.O.Denot) → (slice_index_or l.graph.rows k d).class ≡ slice_index l.graph.current l.class → l.sort ≡ g.O.Operator.signature.sort (slice_index_or l.graph.rows k d).op
