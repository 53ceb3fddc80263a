use Rattle.std.proofs.Common.{◌≡◌}
use Rattle.std.specs.List.{filter, range_with_len}
use Rattle.slot_capacity.specs.Makers.{has}
use Rattle.slot_capacity.proofs.groups.slots_of.Given as goal

abbrev pub invariant-loop-slot : goal.invariant-loop-slot
invariant-loop-slot l = l.slots.items ≡ filter (λ s. has l.one.slots s) (range_with_len 0 l.slot)
