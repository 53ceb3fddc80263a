use Rattle.std.proofs.Common.{◌≡◌, drop}
use Rattle.graph_meaning.specs.Graphs.{constant_among}
use Rattle.graph_meaning.proofs.graphs.LaunchGraph.constant_of.Given as goal

-- The rows so far have no constant of the class.
abbrev pub invariant-loop-row : goal.invariant-loop-row
invariant-loop-row l = constant_among l.self.rows l.class ≡ constant_among (drop l.row-index l.self.rows) l.class
