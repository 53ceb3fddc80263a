use Rattle.std.proofs.Common.{◌≡◌, take}
use Rattle.slot_capacity.specs.Limits as specs
use Rattle.slot_capacity.proofs.limits.coming_by.Given as goal

abbrev pub invariant-loop-one : goal.invariant-loop-one
invariant-loop-one l = l.coming.items ≡ specs.coming_by l.cycle (take l.one-index l.later)
