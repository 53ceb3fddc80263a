use Rattle.std.proofs.Common.{◌≡◌, ◌+◌, length, map, take}
use Rattle.cycle_encoding.specs.Shapes.{numbered, vars_of}
use Rattle.cycle_encoding.specs.Steps.{with_clauses}
use Rattle.slot_capacity.specs.CapacityClauses.{all_launched, is_launched_at}
use Rattle.slot_capacity.proofs.clauses.add_ends.Given as goal

abbrev pub invariant-loop-one : goal.invariant-loop-one
invariant-loop-one l = record {
  is : l.cnf
      ≡ with_clauses l.initial.cnf
      (map (λ x. vars_of (is_launched_at x.class x.last) (numbered l.first (all_launched l.counted)))
      (take l.one-index l.counted));
  here : l.before ≡ l.first + length (all_launched (take l.one-index l.counted));
}
