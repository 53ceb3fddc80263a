use Rattle.std.proofs.Common.{◌≡◌, take, map}
use Rattle.std.specs.List.{range_with_len}
use Rattle.cycle_encoding.specs.Steps.{at_in}
use Rattle.cycle_encoding.proofs.slots.slot_lists.Given as goal

abbrev pub invariant-loop-index : goal.invariant-loop-index
invariant-loop-index l = l.lists.items ≡ map (λ t. at_in l.slot t (take l.index l.launches)) (range_with_len 0 l.k)
