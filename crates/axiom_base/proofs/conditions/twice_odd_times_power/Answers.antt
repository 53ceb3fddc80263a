use Rattle.std.proofs.Common.{arith, refl, subst, ◌*◌}
use Rattle.axiom_base.specs.Conditions.{IsOddTimesPower}
use Rattle.axiom_base.proofs.Giving.{found_odd, found_one, none_of_0}
use Rattle.axiom_base.proofs.conditions.twice_odd_times_power.Goals as goal

pub returns-then-half-eq0 : goal.returns-then-half-eq0
returns-then-half-eq0 c = λ e f h. none_of_0 e f (subst (λ n. IsOddTimesPower (2 * n) e f) c.if-half-eq0.true h)

pub returns-then-e-lt3 : goal.returns-then-e-lt3
returns-then-e-lt3 c = found_one c.args.half (let n = c.if-half-eq0.false in omega (arith, n)) c.ranges.half.fits c.if-e-lt3.true

pub returns : goal.returns
returns c = found_odd c.args.half c.from-f.result _ (let n = c.if-half-eq0.false in omega (arith, n)) c.ranges.half.fits c.from-f.ensures refl c.if-e-lt3.false
