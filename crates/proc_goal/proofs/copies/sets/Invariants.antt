use Rattle.std.proofs.Common.{◌≡◌, map, take}
use Rattle.goal_meaning.specs.Views.{target_view}
use Rattle.proc_goal.proofs.copies.sets.Given as goal

abbrev pub invariant-loop-one : goal.invariant-loop-one
invariant-loop-one l = map target_view l.copies ≡ map target_view (take l.one-index l.sets)
