use Rattle.std.proofs.Common.{map, take}
use Rattle.saturation.specs.Trace.{AreAllApplied}
use Rattle.saturation.specs.Instances.{asked_of}
use Rattle.saturation.proofs.applying.apply_all.Given as goal

abbrev pub invariant-loop-one : goal.invariant-loop-one
invariant-loop-one l = AreAllApplied (take l.one-index (map asked_of l.asked)) l.fn.graph l.graph
