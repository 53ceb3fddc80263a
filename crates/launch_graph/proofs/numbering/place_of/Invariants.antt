use Rattle.std.proofs.Common.{take}
use Rattle.launch_graph.specs.Numbering.{IsUnused}
use Rattle.launch_graph.proofs.numbering.place_of.Given as goal

abbrev pub invariant-loop-at : goal.invariant-loop-at
invariant-loop-at l = IsUnused (take l.at l.used) l.name
