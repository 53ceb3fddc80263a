use Rattle.std.proofs.Common.{◌≡◌, take}
use Rattle.slot_capacity.specs.Limits as specs
use Rattle.slot_capacity.proofs.limits.from_cycle.Given as goal

abbrev pub invariant-loop-one : goal.invariant-loop-one
invariant-loop-one l = l.later.items ≡ specs.from_cycle l.e (take l.one-index l.members)
