use Rattle.std.proofs.Common.{arith, ◌/◌}
use Rattle.axiom_base.proofs.Giving.{odd_is_none, halved}
use Rattle.axiom_base.proofs.conditions.odd_times_power.Goals as goal

pub returns-then-c-eq1 : goal.returns-then-c-eq1
returns-then-c-eq1 c = λ e f h. odd_is_none c.args.c e f c.if-c-eq1.true h

pub returns : goal.returns
returns c = halved c.args.c (c.args.c / 2) c.twice_odd_times_power.result (let n = c.if-c-eq1.false in omega (arith, n)) c.twice_odd_times_power.ensures
