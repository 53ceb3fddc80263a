use Rattle.std.proofs.Common.{◌≡◌, ℕ, slice_index, All, IsSome, IsFalse}
use Rattle.slab.specs.Slab.{get, slab_len}
use Rattle.egraph.specs.Graph.{IsGraph}
use Rattle.egraph.specs.Tables.{FitLists, IsTracked, IsOrder, rows_in}
use Rattle.egraph.proofs.Merging.{IsMerging}
use Rattle.egraph.proofs.graph.Egraph.merge.Given as goal

abbrev pub invariant-loop-waiting : goal.invariant-loop-waiting
invariant-loop-waiting g l = record {
  graph : IsGraph g.O.Operator.signature l.fn.self;
  merging : IsMerging l.fn.self l.a l.b (record { rows = rows_in l.tables.rows l.order.items; current = l.tables.current.items });
  pair : slice_index l.tables.current.items l.a ≡ slice_index l.tables.current.items l.b;
  listed : FitLists g.O.Operator.signature l.tables.rows l.tables.own l.tables.uses l.tables.members l.tables.constants.items l.tables.current.items;
  tracked : (place : ℕ) → IsTracked g.O.Operator.signature l.tables.rows l.tables.index l.waiting.items place;
  in_order : IsOrder l.tables.rows l.order.items;
  held : IsFalse l.dropped → All (λ place. IsSome (get l.tables.rows place)) l.order.items;
}

abbrev pub decreases-loop-waiting : goal.decreases-loop-waiting
decreases-loop-waiting g l = slab_len l.tables.rows
