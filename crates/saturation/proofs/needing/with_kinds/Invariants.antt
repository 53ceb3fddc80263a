use Rattle.std.proofs.Common.{◌≡◌, ◌+◌, ◌-◌, ◌^◌, min, take}
use Rattle.saturation.specs.Trace.{operators_asked}
use Rattle.saturation.specs.Asking.{asked_of_each, kind_asked}
use Rattle.saturation.proofs.needing.with_kinds.Given as goal

abbrev pub invariant-loop-at : goal.invariant-loop-at
invariant-loop-at l = l.need ≡ min (l.before + operators_asked (asked_of_each kind_asked (take l.at l.kinds) (take l.at l.found))) (2 ^ 64 - 1)
