use Rattle.std.proofs.Common.{◌≡◌}
use Rattle.std.specs.Prelude.{◌&&◌}
use Rattle.std.specs.List.{filter, range_with_len}
use Rattle.slot_capacity.specs.Due.{can_be_due, is_asked_for}
use Rattle.slot_capacity.proofs.due.first_due.Given as goal

abbrev pub invariant-loop-class : goal.invariant-loop-class
invariant-loop-class l =
    l.due.items ≡ filter (λ c. can_be_due l.facts c && is_asked_for l.facts c) (range_with_len 0 l.class)
