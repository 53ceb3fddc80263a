use Rattle.std.proofs.Common.{take}
use Rattle.std.specs.List.{All}
use Rattle.sat_core.specs.Walks.{AddsNoLiteral}
use Rattle.sat_core.proofs.conflict.Analysis.are_implied.Given as goal

abbrev pub invariant-loop-lit : goal.invariant-loop-lit
invariant-loop-lit l = All (AddsNoLiteral l.clauses l.trail.steps.items l.trail.indices.items l.self.seen.items l.first l.index) (take l.lit-index l.clause)
