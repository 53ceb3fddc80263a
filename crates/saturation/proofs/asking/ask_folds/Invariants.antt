use Rattle.std.proofs.Common.{◌≡◌, ◌++◌, map, take}
use Rattle.saturation.specs.Asking.{fold_asked}
use Rattle.saturation.specs.Instances.{asked_of}
use Rattle.saturation.proofs.asking.ask_folds.Given as goal

abbrev pub invariant-loop-fold : goal.invariant-loop-fold
invariant-loop-fold l = map asked_of l.asked.items ≡ map asked_of l.fn.asked.items ++ map fold_asked (take l.fold-index l.found)
