use Rattle.std.proofs.Common.{◌≡◌, ◌&&◌, map, not, filter}
use Rattle.goal_meaning.specs.Rules.{has_register}
use Rattle.goal_meaning.specs.Views.{target_view}
use Rattle.code_lift.specs.Lifted.{first_numbers}
use Rattle.own_graph.specs.Own.{is_pin}
use Rattle.own_graph.proofs.graphs.pool.Given as goal

abbrev pub invariant-loop-register : goal.invariant-loop-register
invariant-loop-register l = l.pool ≡ filter (λ r. not (has_register l.inputs r) && not (is_pin (map target_view l.sets) r)) (first_numbers l.register)
