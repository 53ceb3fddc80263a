use Rattle.std.proofs.Common.{◌∙◌, ap, length}
use Rattle.cycle_encoding.specs.Counts.{row_destinations}
use Rattle.schedule_meaning.specs.declared.schedules.Allocation.{Allocation}
use Rattle.least_launch.proofs.CountsOf.{row_is}
use Rattle.least_launch.proofs.counting.row_launches.Goals as goal

pub returns-clause-value : goal.returns-clause-value
returns-clause-value c =
    row_is c.args.facts.now c.args.table.now c.args.k c.args.scope.now c.args.row c.row_count.result
    c.destination_count.result
    c.row_count.ensures.value
    (c.destination_count.ensures.value
    ∙ ap (λ (a : Allocation). length (row_destinations c.args.facts.now a c.args.row)) c.allocation.ensures)
