use Rattle.std.proofs.Common.{arith}
use Rattle.axiom_base.proofs.Giving.{hard_given}
use Rattle.axiom_base.proofs.conditions.hard_constant.Goals as goal

pub returns : goal.returns
returns c =
    hard_given c.args.c c.signed_odd_times_power.result (let n = c.if-c-eq1.false in omega (arith, n))
    (λ m. let t = c.is_made.ensures.1 m in absurd (cc)) c.signed_odd_times_power.ensures
