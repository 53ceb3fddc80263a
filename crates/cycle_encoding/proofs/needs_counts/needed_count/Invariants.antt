use Rattle.std.proofs.Common.{◌≡◌, ◌≤◌, take}
use Rattle.std.specs.List.{count_by}
use Rattle.schedule_meaning.specs.Launches.{operands_at}
use Rattle.cycle_encoding.specs.Counts.{needs_clause}
use Rattle.cycle_encoding.proofs.needs_counts.needed_count.Given as goal

abbrev pub invariant-loop-at : goal.invariant-loop-at
invariant-loop-at l = record { is : l.count ≡ count_by (needs_clause l.facts l.to) (take l.at (operands_at l.facts l.row)); small : l.count ≤ l.at }
