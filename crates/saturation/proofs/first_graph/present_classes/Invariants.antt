use Rattle.std.proofs.Common.{◌≡◌, take}
use Rattle.egraph.specs.Graph.{read_through}
use Rattle.saturation.proofs.first_graph.present_classes.Given as goal

abbrev pub invariant-loop-class : goal.invariant-loop-class
invariant-loop-class l = l.found.items ≡ read_through l.graph (take l.class-index l.classes)
