use Rattle.std.proofs.Common.{◌≡◌, ◌++◌, map, take}
use Rattle.std.specs.Prelude.{filter}
use Rattle.goal_meaning.specs.Views.{target_view}
use Rattle.code_lift.specs.Lifted.{has_let, memory_sets, register_set}
use Rattle.code_lift.specs.LiftingView.{lifting_view}
use Rattle.code_lift.proofs.lift_goals.sets_written.Given as goal

abbrev pub invariant-loop-register : goal.invariant-loop-register
invariant-loop-register l =
    map target_view l.sets
    ≡ memory_sets l.lifting.memory ++ map (register_set (lifting_view l.lifting)) (filter (has_let (lifting_view l.lifting)) (take l.register-index l.out))
