use Rattle.std.proofs.Common.{take}
use Rattle.std.specs.List.{AllZip}
use Rattle.saturation.specs.Numbered.{IsSetNumber}
use Rattle.saturation.proofs.launching.launch_sets.Given as goal

abbrev pub invariant-loop-set : goal.invariant-loop-set
invariant-loop-set l = AllZip (IsSetNumber l.graph l.lets l.numbers) l.classes.items (take l.set-index l.sets)
