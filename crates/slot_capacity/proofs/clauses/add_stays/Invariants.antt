use Rattle.std.proofs.Common.{◌≡◌, ◌+◌, ◌-◌, length, map, take}
use Rattle.std.specs.List.{flat_map, range_with_len}
use Rattle.cycle_encoding.specs.Shapes.{numbered}
use Rattle.cycle_encoding.specs.Steps.{with_clauses}
use Rattle.slot_capacity.specs.CapacityClauses.{all_launched, stays_launched}
use Rattle.slot_capacity.proofs.clauses.add_stays.Given as goal

abbrev pub invariant-loop-one : goal.invariant-loop-one
invariant-loop-one l = record {
  is : l.cnf
      ≡ with_clauses l.initial.cnf
      (flat_map
      (λ x. map (stays_launched (numbered l.first (all_launched l.counted)) x)
      (range_with_len (x.first + 1) (x.last - x.first)))
      (take l.one-index l.counted));
  here : l.before ≡ l.first + length (all_launched (take l.one-index l.counted));
}
