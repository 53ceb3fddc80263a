use Rattle.std.proofs.Common.{◌≡◌, ◌+◌, drop, length}
use Rattle.cycle_encoding.specs.Shapes.{numbered}
use Rattle.slot_capacity.specs.CapacityClauses.{all_launched}
use Rattle.slot_capacity.proofs.LaunchedVars.{at_of}
use Rattle.slot_capacity.proofs.clauses.launched_var.Given as goal

abbrev pub invariant-loop-one : goal.invariant-loop-one
invariant-loop-one l = record {
  same : at_of l.class l.cycle (numbered l.before (all_launched (drop l.one-index l.counted)))
      ≡ at_of l.class l.cycle (numbered l.first (all_launched l.counted));
  room : l.before + length (all_launched (drop l.one-index l.counted)) ≡ l.first + length (all_launched l.counted);
}
