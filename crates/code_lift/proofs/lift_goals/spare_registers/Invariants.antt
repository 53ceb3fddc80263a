use Rattle.std.proofs.Common.{◌≡◌}
use Rattle.std.specs.Prelude.{filter}
use Rattle.code_lift.specs.Lifted.{first_numbers, is_spare}
use Rattle.code_lift.specs.LiftingView.{lifting_view}
use Rattle.code_lift.proofs.lift_goals.spare_registers.Given as goal

abbrev pub invariant-loop-register : goal.invariant-loop-register
invariant-loop-register l = l.spare ≡ filter (is_spare (lifting_view l.lifting) l.out) (first_numbers l.register)
