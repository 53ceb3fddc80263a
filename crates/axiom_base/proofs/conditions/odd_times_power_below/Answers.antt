use Rattle.std.proofs.Common.{arith, ◌/◌, ◌-◌}
use Rattle.axiom_base.proofs.Giving.{halved_odd}
use Rattle.axiom_base.proofs.conditions.odd_times_power_below.Goals as goal

pub returns : goal.returns
returns c =
    let n = c.if-c-eq0.false in
    halved_odd c.args.c (c.args.c - 1) (c.args.c / 2) c.twice_odd_times_power.result (omega (arith, n)) (omega (arith, n)) c.twice_odd_times_power.ensures
