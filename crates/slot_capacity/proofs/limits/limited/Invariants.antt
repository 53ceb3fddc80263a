use Rattle.std.proofs.Common.{◌≡◌, take}
use Rattle.std.specs.List.{flat_map}
use Rattle.slot_capacity.specs.LimitsSteps.{classes_in}
use Rattle.slot_capacity.proofs.limits.limited.Given as goal

abbrev pub invariant-loop-limit : goal.invariant-loop-limit
invariant-loop-limit l = l.classes.items ≡ flat_map classes_in (take l.limit-index l.limits)
