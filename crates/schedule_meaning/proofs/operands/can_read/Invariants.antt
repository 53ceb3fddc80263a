use Rattle.schedule_meaning.specs.Launches.{operands_at}
use Rattle.schedule_meaning.specs.Readers.{CanUse}
use Rattle.schedule_meaning.proofs.Decide.{HoldBelow}
use Rattle.schedule_meaning.proofs.operands.can_read.Given as goal

-- The operands so far can be read.
abbrev pub invariant-loop-at : goal.invariant-loop-at
invariant-loop-at l = HoldBelow (λ i o. CanUse l.graph l.table l.list l.launch o) (operands_at l.graph l.launch.row) l.at
