use Rattle.std.proofs.Common.{◌≡◌, false, map, take}
use Rattle.goal_meaning.specs.Views.{target_view}
use Rattle.own_graph.specs.Own.{is_pin}
use Rattle.own_graph.proofs.graphs.is_pin.Given as goal

abbrev pub invariant-loop-set : goal.invariant-loop-set
invariant-loop-set l = is_pin (map target_view (take l.set-index l.sets)) l.register ≡ false
