use Rattle.std.proofs.Common.{◌≡◌, map, take}
use Rattle.own_graph.specs.Own.{own_input}
use Rattle.own_graph.proofs.graphs.input_classes.Given as goal

abbrev pub invariant-loop-input : goal.invariant-loop-input
invariant-loop-input l = l.classes ≡ map (own_input l.rows) (take l.input-index l.inputs)
