use Rattle.std.proofs.Common.{◌≡◌}
use Rattle.std.specs.List.{flat_map, range_with_len}
use Rattle.cycle_encoding.specs.Shapes.{numbered}
use Rattle.order_encoding.specs.LiveVariables.{all_holds}
use Rattle.order_encoding.specs.OrderSteps.{slot_lits}
use Rattle.order_encoding.proofs.holds.held_lits.Given as goal

abbrev pub invariant-loop-slot : goal.invariant-loop-slot
invariant-loop-slot l = l.lits.items ≡ flat_map (slot_lits l.cycle (numbered l.holds.first (all_holds l.holds.table.now l.holds.k))) (range_with_len 0 l.slot)
