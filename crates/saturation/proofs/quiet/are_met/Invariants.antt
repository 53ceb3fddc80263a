use Rattle.std.proofs.Common.{map, take}
use Rattle.axiom_base.specs.Schemes.{plain}
use Rattle.saturation.specs.Grown.{AreMet}
use Rattle.saturation.proofs.quiet.are_met.Given as goal

abbrev pub invariant-loop-rule : goal.invariant-loop-rule
invariant-loop-rule l = AreMet l.graph (map plain (take l.rule-index l.rules))
