use Rattle.std.proofs.Common.{◌≡◌, take, map}
use Rattle.std.specs.List.{range_with_len}
use Rattle.graph_meaning.specs.Graphs.{constant_among}
use Rattle.cycle_encoding.proofs.facts.constants.Given as goal

abbrev pub invariant-loop-row : goal.invariant-loop-row
invariant-loop-row l = l.table.items ≡ map (constant_among (take l.row-index l.graph.rows)) (range_with_len 0 l.classes)
