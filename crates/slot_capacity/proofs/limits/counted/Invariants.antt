use Rattle.std.proofs.Common.{◌≡◌, false, get_or, take}
use Rattle.std.specs.List.{filter}
use Rattle.slot_capacity.proofs.limits.counted.Given as goal

abbrev pub invariant-loop-one : goal.invariant-loop-one
invariant-loop-one l = l.counted.items ≡ filter (λ x. get_or l.marks.items x.class false) (take l.one-index l.deadlines)
