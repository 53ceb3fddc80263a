use Rattle.std.proofs.Common.{◌≡◌, drop, map, max}
use Rattle.std.specs.Prelude.{fold}
use Rattle.slot_capacity.specs.Deadlines.{last_of_row, last_of_rows}
use Rattle.slot_capacity.proofs.deadlines.last_made.Given as goal

abbrev pub invariant-loop-row : goal.invariant-loop-row
invariant-loop-row l =
    fold max l.greatest (map (last_of_row l.spans) (drop l.row-index l.rows)) ≡ last_of_rows l.spans l.rows
