use Rattle.std.proofs.Common.{◌≡◌, ◌++◌}
use Rattle.cycle_encoding.specs.Facts.{destined_slot}
use Rattle.cycle_encoding.proofs.by_destination.push_slot.Given as goal

abbrev pub invariant-loop-step : goal.invariant-loop-step
invariant-loop-step l = l.launches.items ≡ l.initial.launches.items ++ destined_slot l.place.row l.first l.step l.tos l.place.slot
