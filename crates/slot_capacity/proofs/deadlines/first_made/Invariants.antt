use Rattle.std.proofs.Common.{◌≡◌, drop, map}
use Rattle.slot_capacity.specs.Deadlines.{first_of_row, first_of_rows}
use Rattle.slot_capacity.proofs.Extremes.{least_with}
use Rattle.slot_capacity.proofs.deadlines.first_made.Given as goal

abbrev pub invariant-loop-row : goal.invariant-loop-row
invariant-loop-row l =
    least_with l.least (map (first_of_row l.spans) (drop l.row-index l.rows)) ≡ first_of_rows l.spans l.rows
