use Rattle.std.proofs.Common.{arith, subst}
use Rattle.axiom_base.specs.Conditions.{IsSignedOddTimesPower}
use Rattle.axiom_base.proofs.Parities.{never_0}
use Rattle.axiom_base.proofs.Giving.{found_signed}
use Rattle.axiom_base.proofs.conditions.signed_odd_times_power.Goals as goal

pub returns-then-c-eq0 : goal.returns-then-c-eq0
returns-then-c-eq0 c = λ e f h. never_0 e f (subst (λ n. IsSignedOddTimesPower n e f) c.if-c-eq0.true h)

pub returns : goal.returns
returns c = found_signed c.args.c c.from-f.result c.apply-e.result (let n = c.if-c-eq0.false in omega (arith, n)) c.ranges.c.fits c.from-f.ensures c.apply-e.ensures
