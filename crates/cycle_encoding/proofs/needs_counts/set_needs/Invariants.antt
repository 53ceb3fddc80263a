use Rattle.std.proofs.Common.{◌≡◌, ◌≤◌, ◌*◌, take}
use Rattle.std.specs.List.{count_by, sum_by}
use Rattle.schedule_meaning.specs.Launches.{operands_at}
use Rattle.schedule_meaning.specs.declared.schedules.To.TheVariants.{Set}
use Rattle.cycle_encoding.specs.Counts.{one_if}
use Rattle.cycle_encoding.specs.Counts.{needs_clause}
use Rattle.cycle_encoding.specs.Variables.{takes, pinned_sets}
use Rattle.cycle_encoding.proofs.needs_counts.set_needs.Given as goal

abbrev pub invariant-loop-set : goal.invariant-loop-set
invariant-loop-set l = record { is : l.count ≡ sum_by (λ j. one_if (takes l.facts l.allocation l.instr l.class j) * count_by (needs_clause l.facts (Set j)) (operands_at l.facts l.row)) (take l.set-index (pinned_sets l.facts)); small : l.count ≤ l.set-index * 4 }
