use Rattle.std.proofs.Common.{◌≡◌, ◌++◌, take}
use Rattle.cycle_encoding.specs.Facts.{cycle_launches}
use Rattle.cycle_encoding.proofs.by_destination.push_cycle.Given as goal

abbrev pub invariant-loop-to : goal.invariant-loop-to
invariant-loop-to l = l.launches.items ≡ l.initial.launches.items ++ cycle_launches l.row l.slot (take l.to-index l.tos) l.cycle
