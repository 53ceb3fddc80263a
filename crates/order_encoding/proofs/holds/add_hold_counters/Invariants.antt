use Rattle.std.proofs.Common.{◌≡◌, length}
use Rattle.cycle_encoding.specs.Shapes.{numbered}
use Rattle.order_encoding.specs.LiveVariables.{all_holds}
use Rattle.order_encoding.proofs.CountersUpTo.{up_to}
use Rattle.order_encoding.proofs.LiveExtended.{held_group}
use Rattle.order_encoding.proofs.holds.add_hold_counters.Given as goal

abbrev pub invariant-loop-cycle : goal.invariant-loop-cycle
invariant-loop-cycle l = l.cnf ≡ up_to (length l.facts.pool) (held_group (numbered l.holds.first (all_holds l.holds.table.now l.holds.k))) l.initial.cnf l.cycle
