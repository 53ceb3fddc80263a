use Rattle.std.specs.List.{AllWithin}
use Rattle.sat_core.specs.Steps.{assignment_of}
use Rattle.sat_core.specs.Watches.{IsPassedOver}
use Rattle.sat_core.proofs.propagation.first_between.Given as goal

abbrev pub invariant-loop-at : goal.invariant-loop-at
invariant-loop-at l = AllWithin (IsPassedOver (assignment_of l.trail.values.items) l.other) l.clause l.start l.at
