use Rattle.std.proofs.Common.{◌≡◌, take}
use Rattle.schedule_meaning.specs.Launches.{operands_at}
use Rattle.cycle_encoding.specs.Lacking.{lacked_among}
use Rattle.cycle_encoding.proofs.operands.lacked_operands.Given as goal

abbrev pub invariant-loop-at : goal.invariant-loop-at
invariant-loop-at l = l.lacked.items ≡ lacked_among l.there l.facts (take l.at (operands_at l.facts l.row))
