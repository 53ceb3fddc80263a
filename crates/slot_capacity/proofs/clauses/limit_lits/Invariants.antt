use Rattle.std.proofs.Common.{◌≡◌, min, take}
use Rattle.std.specs.List.{flat_map}
use Rattle.cycle_encoding.specs.Shapes.{numbered, vars_of}
use Rattle.slot_capacity.specs.CapacityClauses.{all_launched, is_launched_at}
use Rattle.slot_capacity.proofs.clauses.limit_lits.Given as goal

abbrev pub invariant-loop-one : goal.invariant-loop-one
invariant-loop-one l =
    l.lits.items
    ≡ flat_map
    (λ x. vars_of (is_launched_at x.class (min l.limit.cycle x.last)) (numbered l.first (all_launched l.counted)))
    (take l.one-index l.limit.due)
