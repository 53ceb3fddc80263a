use Rattle.std.proofs.Common.{◌≡◌, subst, sym}
use Rattle.std.specs.Prelude.{IfOk, unwrap_or}
use Rattle.code_lift.specs.Lifted.{spare_registers}
use Rattle.code_lift.specs.LiftingView.{lifting_view}
use Rattle.code_lift.proofs.lift_goals.pool.Goals as goal

pub returns-in-None : goal.returns-in-None
returns-in-None c =
    let s = lifting_view c.args.lifting.now in
    subst (λ o. IfOk c.spare_registers.result (λ pool. pool ≡ unwrap_or o (spare_registers s c.args.lift.now.out))) (sym c.in-None.is)
    (subst (λ out. IfOk c.spare_registers.result (λ pool. pool ≡ spare_registers s out)) c.as_slice-in-None.ensures c.spare_registers.ensures)
