use Rattle.std.proofs.Common.{◌≡◌, map, take}
use Rattle.cycle_encoding.specs.Variables.{classes_of}
use Rattle.slot_capacity.specs.Makers.{has}
use Rattle.slot_capacity.proofs.sets.marked.Given as goal

abbrev pub invariant-loop-class : goal.invariant-loop-class
invariant-loop-class l = l.marks.items ≡ map (has (take l.class-index l.classes)) (classes_of l.facts)
