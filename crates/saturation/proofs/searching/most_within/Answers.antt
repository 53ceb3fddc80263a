use Rattle.std.proofs.Common.{arith}
use Rattle.std.proofs.Math.Nat.{div-lt_iff_lt-mul}
use Rattle.saturation.proofs.searching.most_within.Goals as goal

pub returns-then-weight-eq0 : goal.returns-then-weight-eq0
returns-then-weight-eq0 c = λ count few l. absurd (omega (arith, few, l))

pub returns-else-weight-eq0 : goal.returns-else-weight-eq0
returns-else-weight-eq0 c = λ count few l. (div-lt_iff_lt-mul (omega (arith, c.if-weight-eq0.false))).0 l
