use Rattle.std.proofs.Common.{◌≡◌, ◌++◌, map, take}
use Rattle.saturation.specs.Asking.{rule_asked}
use Rattle.saturation.specs.Instances.{asked_of}
use Rattle.saturation.proofs.asking.ask_rule.Given as goal

abbrev pub invariant-loop-one : goal.invariant-loop-one
invariant-loop-one l = map asked_of l.asked.items ≡ map asked_of l.fn.asked.items ++ map (rule_asked l.rule) (take l.one-index l.found)
