use Rattle.std.proofs.Common.{◌≡◌, ◌++◌, drop, filter, not}
use Rattle.goal_meaning.specs.WellFormed.{input_registers}
use Rattle.goal_meaning.specs.Rules.{has_register}
use Rattle.goal_reader.specs.Reading.{pins_of_targets}
use Rattle.goal_reader.proofs.whole.not_taken.Given as goal

abbrev pub invariant-loop-register : goal.invariant-loop-register
invariant-loop-register l =
    l.pool ++ filter (λ r. not (has_register (input_registers l.inputs ++ pins_of_targets l.targets) r)) (drop l.register-index l.among)
    ≡ filter (λ r. not (has_register (input_registers l.inputs ++ pins_of_targets l.targets) r)) l.among
