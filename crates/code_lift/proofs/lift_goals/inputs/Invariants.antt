use Rattle.std.proofs.Common.{◌≡◌, false, map}
use Rattle.std.specs.Prelude.{filter, slice_index_or}
use Rattle.code_lift.specs.Lifted.{first_numbers, input_named}
use Rattle.code_lift.proofs.lift_goals.inputs.Given as goal

abbrev pub invariant-loop-register : goal.invariant-loop-register
invariant-loop-register l = l.inputs ≡ map input_named (filter (λ r. slice_index_or l.lifting.is_read r false) (first_numbers l.register))
