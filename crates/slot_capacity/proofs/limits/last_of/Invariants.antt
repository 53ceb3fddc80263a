use Rattle.std.proofs.Common.{◌≡◌, drop, map, max}
use Rattle.std.specs.Prelude.{fold}
use Rattle.slot_capacity.specs.Limits as specs
use Rattle.slot_capacity.proofs.limits.last_of.Given as goal

abbrev pub invariant-loop-one : goal.invariant-loop-one
invariant-loop-one l =
    fold max l.last (map (λ x. x.last) (drop l.one-index l.deadlines)) ≡ specs.last_of l.deadlines
