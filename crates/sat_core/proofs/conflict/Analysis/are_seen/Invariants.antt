use Rattle.std.proofs.Common.{take}
use Rattle.std.specs.List.{All}
use Rattle.sat_core.specs.Walks.{AddsNoStep}
use Rattle.sat_core.proofs.conflict.Analysis.are_seen.Given as goal

abbrev pub invariant-loop-lit : goal.invariant-loop-lit
invariant-loop-lit l = All (AddsNoStep l.indices l.self.seen.items l.first l.index) (take l.lit-index l.clause)
