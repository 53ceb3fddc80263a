use Rattle.std.proofs.Common.{◌≡◌, take}
use Rattle.schedule_meaning.specs.Launches.{goes_to}
use Rattle.cycle_encoding.specs.Shapes.{numbered, vars_of}
use Rattle.order_encoding.proofs.pins.going.Given as goal

abbrev pub invariant-loop-index : goal.invariant-loop-index
invariant-loop-index l = l.lits.items ≡ vars_of (goes_to l.set) (numbered 0 (take l.index l.launches))
