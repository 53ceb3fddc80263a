use Rattle.std.proofs.Common.{◌≡◌, ◌∙◌, ap, arith}
use Rattle.std.specs.Prelude.{filter}
use Rattle.code_lift.specs.Lifted.{first_numbers, is_spare}
use Rattle.code_lift.specs.LiftingView.{lifting_view}
use Rattle.code_lift.proofs.lift_goals.spare_registers.Goals as goal

pub returns : goal.returns
returns c =
    let k = c.loop-register.register in
    let low = c.loop-register-test.false in
    let high = c.loop-register.auto.register-end in
    let end : k ≡ 31 = omega (arith, low, high) in
    c.loop-register.invariant ∙ ap (λ j. filter (is_spare (lifting_view c.args.lifting.now) c.args.out.now) (first_numbers j)) end
