use Rattle.std.proofs.Common.{◌≡◌, take, map}
use Rattle.std.specs.Prelude.{slice_index}
use Rattle.saturation.proofs.launching.launch_row.Given as goal

abbrev pub invariant-loop-class : goal.invariant-loop-class
invariant-loop-class l = l.operands.items ≡ map (slice_index l.numbers) (take l.class-index l.row.operands)
