use Rattle.std.proofs.Common.{◌≡◌, take}
use Rattle.std.specs.Prelude.{not}
use Rattle.schedule_meaning.specs.Launches.{operands_at}
use Rattle.cycle_encoding.specs.Facts.{classes_among}
use Rattle.cycle_encoding.specs.Families.{is_free}
use Rattle.slot_capacity.proofs.makers.reads_of.Given as goal

abbrev pub invariant-loop-at : goal.invariant-loop-at
invariant-loop-at l =
    l.reads.items ≡ classes_among (λ o. not (is_free l.facts o)) (take l.at (operands_at l.facts l.row))
