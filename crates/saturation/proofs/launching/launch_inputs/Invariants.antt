use Rattle.std.proofs.Common.{take}
use Rattle.std.specs.List.{AllZip}
use Rattle.saturation.specs.Numbered.{IsInputNumber}
use Rattle.saturation.proofs.launching.launch_inputs.Given as goal

abbrev pub invariant-loop-input : goal.invariant-loop-input
invariant-loop-input l = AllZip (IsInputNumber l.graph l.numbers) l.classes.items (take l.input-index l.inputs)
