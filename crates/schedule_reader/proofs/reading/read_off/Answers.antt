use Rattle.std.proofs.Common.{sym, subst}
use Rattle.std.specs.List.Sorted.{IsSortedBy}
use Rattle.schedule_reader.specs.LaunchOrder.{comes_before}
use Rattle.schedule_reader.proofs.Order.{sorted_by_numbers}
use Rattle.schedule_reader.proofs.reading.read_off.Goals as goal

pub returns-clause-sorted : goal.returns-clause-sorted
returns-clause-sorted c =
    subst (IsSortedBy comes_before) (sym c.from.ensures) (sorted_by_numbers _ c.in_ok-sort.ensures.sorted)
