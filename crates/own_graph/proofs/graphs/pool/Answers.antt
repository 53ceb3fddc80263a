use Rattle.std.proofs.Common.{◌≡◌, ◌&&◌, ◌∙◌, ap, arith, filter, map, not}
use Rattle.goal_meaning.specs.Rules.{has_register}
use Rattle.goal_meaning.specs.Views.{target_view}
use Rattle.code_lift.specs.Lifted.{first_numbers}
use Rattle.own_graph.specs.Own.{is_pin}
use Rattle.own_graph.proofs.graphs.pool.Goals as goal

pub returns : goal.returns
returns c =
    let k = c.loop-register.register in
    let low = c.loop-register-test.false in
    let high = c.loop-register.auto.register-end in
    let end : k ≡ 31 = omega (arith, low, high) in
    c.loop-register.invariant ∙ ap (λ j. filter (λ r. not (has_register c.args.inputs.now r) && not (is_pin (map target_view c.args.sets.now) r)) (first_numbers j)) end
