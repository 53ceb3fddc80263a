use Rattle.std.proofs.Common.{◌≡◌, map, take}
use Rattle.goal_meaning.specs.Views.{target_view}
use Rattle.code_lift.specs.LiftingView.{lifting_view}
use Rattle.own_graph.specs.Own.{own_set}
use Rattle.own_graph.specs.OwnView.{own_view}
use Rattle.own_graph.proofs.graphs.set_classes.Given as goal

abbrev pub invariant-loop-set : goal.invariant-loop-set
invariant-loop-set l = l.classes ≡ map (λ s. own_set (lifting_view l.lifting) (own_view l.own) (target_view s)) (take l.set-index l.sets)
