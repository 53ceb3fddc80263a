use Rattle.std.proofs.Common.{◌≡◌, take}
use Rattle.register_assign.specs.Places.{places}
use Rattle.register_assign.proofs.registers.Ordered.wheres_of.Given as goal

abbrev pub invariant-loop-set : goal.invariant-loop-set
invariant-loop-set l =
    l.wheres ≡ places l.self.graph.now l.self.table.now l.self.allocation l.self.launches.now
    (take l.set-index l.self.graph.now.sets)
