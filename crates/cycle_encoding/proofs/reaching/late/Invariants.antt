use Rattle.std.proofs.Common.{◌≡◌, ◌≤◌, ◌*◌, take}
use Rattle.std.specs.List.{sum_by}
use Rattle.cycle_encoding.specs.Counts.{one_if}
use Rattle.cycle_encoding.specs.Variables.{takes, is_overwriting, pinned_sets}
use Rattle.cycle_encoding.proofs.reaching.late.Given as goal

abbrev pub invariant-loop-set : goal.invariant-loop-set
invariant-loop-set l = record { is : l.count ≡ sum_by (λ j. one_if (takes l.facts l.allocation l.instr l.class j) * one_if (is_overwriting l.facts j)) (take l.set-index (pinned_sets l.facts)); small : l.count ≤ l.set-index }
