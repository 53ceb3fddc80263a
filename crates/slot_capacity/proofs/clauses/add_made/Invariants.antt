use Rattle.std.proofs.Common.{◌≡◌, take}
use Rattle.cycle_encoding.specs.Shapes.{implied, numbered}
use Rattle.cycle_encoding.specs.Steps.{with_clauses}
use Rattle.slot_capacity.specs.CapacityClauses.{all_launched, makes_counted}
use Rattle.slot_capacity.proofs.clauses.add_made.Given as goal

abbrev pub invariant-loop-index : goal.invariant-loop-index
invariant-loop-index l =
    l.cnf
    ≡ with_clauses l.initial.cnf
    (implied (numbered 0 (take l.index l.launches))
    (makes_counted l.facts l.counted (numbered l.first (all_launched l.counted))))
