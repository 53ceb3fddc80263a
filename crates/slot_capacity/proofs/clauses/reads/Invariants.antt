use Rattle.std.proofs.Common.{◌≡◌, false, take}
use Rattle.std.specs.Prelude.{◌&&◌, ◌==◌, not}
use Rattle.std.specs.List.{list_any}
use Rattle.schedule_meaning.specs.Launches.{operands_at}
use Rattle.cycle_encoding.specs.Families.{is_free}
use Rattle.slot_capacity.proofs.clauses.reads.Given as goal

abbrev pub invariant-loop-at : goal.invariant-loop-at
invariant-loop-at l =
    list_any (λ o. not (is_free l.facts o) && (o.class == l.class)) (take l.at (operands_at l.facts l.row)) ≡ false
