use Rattle.std.proofs.Common.{◌≡◌, ◌≤◌, take, length}
use Rattle.std.specs.List.{filter}
use Rattle.cycle_encoding.specs.Variables.{is_overwriting, pinned_sets}
use Rattle.cycle_encoding.proofs.overwriting.overwritten_vars.Given as goal

abbrev pub invariant-loop-set : goal.invariant-loop-set
invariant-loop-set l = record { are : l.sets.items ≡ filter (is_overwriting l.facts) (take l.set-index (pinned_sets l.facts)); small : length l.sets.items ≤ l.set-index }
