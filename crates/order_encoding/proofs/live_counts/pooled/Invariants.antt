use Rattle.std.proofs.Common.{◌≡◌}
use Rattle.graph_meaning.specs.WellFormed.{next_class}
use Rattle.order_encoding.proofs.LiveTallies.{pooled_below}
use Rattle.order_encoding.proofs.live_counts.pooled.Given as goal

abbrev pub invariant-loop-row : goal.invariant-loop-row
invariant-loop-row l = l.marks.items ≡ pooled_below l.frame.facts.now l.frame.table.now l.frame.k l.frame.scope.now (next_class l.frame.facts.now.rows) l.row
