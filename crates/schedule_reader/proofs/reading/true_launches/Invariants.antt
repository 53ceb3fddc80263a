use Rattle.std.proofs.Common.{◌≡◌, take}
use Rattle.cnf_core.specs.Formula.{assigned}
use Rattle.cycle_encoding.specs.Shapes.{numbered, shown}
use Rattle.schedule_reader.proofs.reading.true_launches.Given as goal

abbrev pub invariant-loop-index : goal.invariant-loop-index
invariant-loop-index l = l.shown.items ≡ shown (assigned l.values) (numbered 0 (take l.index l.launches))
