use Rattle.std.proofs.Common.{◌≡◌, ◌++◌, map, take}
use Rattle.slot_capacity.proofs.limits.push_classes.Given as goal

abbrev pub invariant-loop-one : goal.invariant-loop-one
invariant-loop-one l = l.classes.items ≡ l.initial.classes.items ++ map (λ x. x.class) (take l.one-index l.due)
