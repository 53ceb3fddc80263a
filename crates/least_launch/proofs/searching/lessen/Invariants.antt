use Rattle.std.proofs.Common.{◌≤◌, length}
use Rattle.cycle_encoding.specs.CycleFormula.{allocation_in}
use Rattle.schedule_meaning.specs.Fits.{Fits}
use Rattle.least_launch.proofs.searching.lessen.Given as goal

abbrev pub invariant-loop-alloc : goal.invariant-loop-alloc
invariant-loop-alloc l = record {
  fits : Fits l.facts l.table (allocation_in l.scope) l.k l.schedule.launches;
  no_more : length l.schedule.launches ≤ length l.fn.given.launches;
}

abbrev pub decreases-loop-alloc : goal.decreases-loop-alloc
decreases-loop-alloc l = length l.schedule.launches
