use Rattle.std.proofs.Common.{◌≡◌, ◌≤◌, take}
use Rattle.std.specs.List.{count_by}
use Rattle.cycle_encoding.specs.Families.{is_made_target}
use Rattle.cycle_encoding.proofs.sizes.target_count.Given as goal

abbrev pub invariant-loop-set : goal.invariant-loop-set
invariant-loop-set l = record { is : l.count ≡ count_by (is_made_target l.facts) (take l.set-index l.facts.sets); small : l.count ≤ l.set-index }
