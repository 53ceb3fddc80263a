use Rattle.std.proofs.Common.{◌≡◌, take}
use Rattle.cycle_encoding.specs.Steps.{given_in}
use Rattle.cycle_encoding.proofs.families.giving.Given as goal

abbrev pub invariant-loop-index : goal.invariant-loop-index
invariant-loop-index l = l.given.items ≡ given_in l.facts l.class (take l.index l.launches)
