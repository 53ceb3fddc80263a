use Rattle.std.proofs.Common.{◌≡◌, drop}
use Rattle.slot_capacity.specs.CapacityClauses.{last_counted}
use Rattle.slot_capacity.proofs.clauses.last_counted.Given as goal

abbrev pub invariant-loop-one : goal.invariant-loop-one
invariant-loop-one l = last_counted (drop l.one-index l.counted) l.class ≡ last_counted l.counted l.class
