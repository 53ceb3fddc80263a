use Rattle.schedule_meaning.specs.Fits.{HasRoom}
use Rattle.schedule_meaning.specs.declared.schedules.Allocation.TheVariants.{Live}
use Rattle.schedule_meaning.proofs.lifetimes.has_room_in_each.Given as goal

-- There is room in the cycles so far.
abbrev pub invariant-loop-cycle : goal.invariant-loop-cycle
invariant-loop-cycle l = HasRoom l.graph Live l.cycle l.list
