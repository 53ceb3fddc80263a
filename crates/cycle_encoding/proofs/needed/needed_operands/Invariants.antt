use Rattle.std.proofs.Common.{◌≡◌, take}
use Rattle.schedule_meaning.specs.Launches.{operands_at}
use Rattle.cycle_encoding.specs.Steps.{needed_among}
use Rattle.cycle_encoding.proofs.needed.needed_operands.Given as goal

abbrev pub invariant-loop-at : goal.invariant-loop-at
invariant-loop-at l = l.needed.items ≡ needed_among l.facts l.launch (take l.at (operands_at l.facts l.launch.row))
