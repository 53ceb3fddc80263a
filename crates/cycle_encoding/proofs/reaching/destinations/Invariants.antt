use Rattle.std.proofs.Common.{◌≡◌, ◌≤◌, ◌+◌, ◌∷◌, take, map, length}
use Rattle.std.specs.List.{filter}
use Rattle.schedule_meaning.specs.declared.schedules.To.TheVariants.{Pool, Set}
use Rattle.cycle_encoding.specs.Variables.{takes, pinned_sets}
use Rattle.cycle_encoding.proofs.reaching.destinations.Given as goal

abbrev pub invariant-loop-set : goal.invariant-loop-set
invariant-loop-set l = record { are : l.tos.items ≡ Pool ∷ map Set (filter (takes l.facts l.allocation l.instr l.class) (take l.set-index (pinned_sets l.facts))); few : length l.tos.items ≤ l.set-index + 1 }
