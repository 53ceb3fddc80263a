use Rattle.std.proofs.Common.{◌≡◌, ◌++◌, map, take}
use Rattle.saturation.specs.Asking.{asked_of_each, kind_asked}
use Rattle.saturation.specs.Instances.{asked_of}
use Rattle.saturation.proofs.asking.ask_kinds.Given as goal

abbrev pub invariant-loop-at : goal.invariant-loop-at
invariant-loop-at l = map asked_of l.asked.items ≡ map asked_of l.fn.asked.items ++ asked_of_each kind_asked (take l.at l.kinds) (take l.at l.found)
