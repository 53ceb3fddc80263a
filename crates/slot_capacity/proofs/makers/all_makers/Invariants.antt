use Rattle.std.proofs.Common.{◌≡◌, map}
use Rattle.std.specs.Prelude.{◌&&◌, ◌==◌}
use Rattle.std.specs.List.{filter, range_with_len}
use Rattle.graph_meaning.specs.WellFormed.{next_class}
use Rattle.schedule_meaning.specs.Launches.{class_at}
use Rattle.slot_capacity.specs.Makers.{can_come, makes_own}
use Rattle.slot_capacity.proofs.makers.all_makers.Given as goal

abbrev pub invariant-loop-row : goal.invariant-loop-row
invariant-loop-row l =
    l.lists.items
    ≡ map
    (λ class. filter
    (λ row. (class_at l.reads.facts.now row == class) && (makes_own l.reads.facts.now row && can_come l.spans row))
    (range_with_len 0 l.row))
    (range_with_len 0 (next_class l.reads.facts.now.rows))
