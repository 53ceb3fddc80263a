use Rattle.std.proofs.Common.{◌≡◌, map, take}
use Rattle.own_graph.proofs.graphs.input_registers.Given as goal

abbrev pub invariant-loop-input : goal.invariant-loop-input
invariant-loop-input l = l.registers.items ≡ map (λ i. i.reg) (take l.input-index l.inputs)
