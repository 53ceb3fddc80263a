use Rattle.std.proofs.Common.{◌≡◌}
use Rattle.cycle_encoding.specs.CycleFormula.{listed_in}
use Rattle.order_encoding.proofs.PartLoop.{up_to}
use Rattle.order_encoding.proofs.whole.build_whole.Given as goal

abbrev pub invariant-loop-part : goal.invariant-loop-part
invariant-loop-part l =
    l.cnf
    ≡ up_to l.part-index l.frame.facts.now l.frame.table.now l.frame.k
    (listed_in l.frame.facts.now l.frame.table.now l.frame.k l.frame.scope.now)
