use Rattle.std.proofs.Common.{map, take}
use Rattle.axiom_base.specs.Schemes.{computed}
use Rattle.saturation.specs.Grown.{AreMet}
use Rattle.saturation.proofs.quiet.are_kinds_met.Given as goal

abbrev pub invariant-loop-kind : goal.invariant-loop-kind
invariant-loop-kind l = AreMet l.graph (map computed (take l.kind-index l.kinds))
