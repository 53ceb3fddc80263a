use Rattle.std.proofs.Common.{◌≡◌, drop}
use Rattle.goal_meaning.specs.Rules.{has_register}
use Rattle.goal_reader.specs.Reading.{pins_of_targets}
use Rattle.goal_reader.proofs.targets.is_pin.Given as goal

abbrev pub invariant-loop-target : goal.invariant-loop-target
invariant-loop-target l = has_register (pins_of_targets l.targets) l.register ≡ has_register (pins_of_targets (drop l.target-index l.targets)) l.register
