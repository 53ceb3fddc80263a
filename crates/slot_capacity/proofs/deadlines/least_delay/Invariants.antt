use Rattle.std.proofs.Common.{◌≡◌, drop, map}
use Rattle.std.specs.Prelude.{unwrap_or}
use Rattle.cycle_encoding.specs.Coming.{delay_at}
use Rattle.slot_capacity.specs.Deadlines.{delay_of_rows}
use Rattle.slot_capacity.proofs.Extremes.{least_with}
use Rattle.slot_capacity.proofs.deadlines.least_delay.Given as goal

abbrev pub invariant-loop-row : goal.invariant-loop-row
invariant-loop-row l =
    least_with l.least (map (λ row. unwrap_or (delay_at l.facts l.table row) 0) (drop l.row-index l.rows))
    ≡ delay_of_rows l.facts l.table l.rows
