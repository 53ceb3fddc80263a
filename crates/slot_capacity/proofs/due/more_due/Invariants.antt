use Rattle.std.proofs.Common.{◌≡◌, false, get_or}
use Rattle.std.specs.Prelude.{◌&&◌, ◌||◌}
use Rattle.std.specs.List.{filter, range_with_len}
use Rattle.slot_capacity.specs.Due.{can_be_due}
use Rattle.slot_capacity.proofs.due.more_due.Given as goal

abbrev pub invariant-loop-class : goal.invariant-loop-class
invariant-loop-class l =
    l.more.items
    ≡ filter
    (λ c. get_or l.due_marks.items c false || (can_be_due l.makers.frame.facts.now c && get_or l.read_marks.items c false))
    (range_with_len 0 l.class)
