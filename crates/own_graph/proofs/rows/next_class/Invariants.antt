use Rattle.std.proofs.Common.{◌≡◌, take}
use Rattle.graph_meaning.specs.WellFormed.{next_class}
use Rattle.own_graph.proofs.rows.next_class.Given as goal

abbrev pub invariant-loop-row : goal.invariant-loop-row
invariant-loop-row l = l.next ≡ next_class (take l.row-index l.rows)
