use Rattle.std.proofs.Common.{◌≡◌, ◌++◌}
use Rattle.slot_capacity.specs.Limits.{member_limits}
use Rattle.slot_capacity.proofs.limits.push_group.Given as goal

abbrev pub invariant-loop-e : goal.invariant-loop-e
invariant-loop-e l = l.limits.items ≡ l.initial.limits.items ++ member_limits l.e l.group l.members
