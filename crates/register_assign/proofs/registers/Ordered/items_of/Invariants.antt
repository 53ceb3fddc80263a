use Rattle.std.proofs.Common.{◌≡◌, take}
use Rattle.register_assign.specs.Listings.{items_from}
use Rattle.register_assign.proofs.registers.Ordered.items_of.Given as goal

abbrev pub invariant-loop-place : goal.invariant-loop-place
invariant-loop-place l =
    l.items ≡ items_from l.self.graph.now l.self.table.now l.self.allocation l.self.launches.now 0
    (take l.place l.self.launches.now)
