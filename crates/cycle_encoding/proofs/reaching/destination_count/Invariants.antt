use Rattle.std.proofs.Common.{◌≡◌, ◌≤◌, ◌+◌, take}
use Rattle.std.specs.List.{count_by}
use Rattle.cycle_encoding.specs.Variables.{takes, pinned_sets}
use Rattle.cycle_encoding.proofs.reaching.destination_count.Given as goal

abbrev pub invariant-loop-set : goal.invariant-loop-set
invariant-loop-set l = record { is : l.count ≡ 1 + count_by (takes l.facts l.allocation l.instr l.class) (take l.set-index (pinned_sets l.facts)); small : l.count ≤ l.set-index + 1 }
