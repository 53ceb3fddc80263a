use Rattle.std.proofs.Common.{take}
use Rattle.cnf_core.proofs.Scanning.{UnitSoFar}
use Rattle.cnf_core.proofs.values.status_of.Given as goal

abbrev pub invariant-loop-lit : goal.invariant-loop-lit
invariant-loop-lit g l = UnitSoFar (g.V.Values.partial l.values) (take l.lit-index l.clause) l.found
