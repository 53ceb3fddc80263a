use Rattle.std.proofs.Common.{◌≡◌, take, map}
use Rattle.cycle_encoding.specs.Shapes.{positive}
use Rattle.cycle_encoding.proofs.families.variables.Given as goal

abbrev pub invariant-loop-var : goal.invariant-loop-var
invariant-loop-var l = l.lits.items ≡ map (λ p. positive p.0) (take l.var-index l.given)
