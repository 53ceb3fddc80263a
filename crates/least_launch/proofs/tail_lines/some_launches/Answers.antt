use Rattle.std.proofs.Common.{◌<◌, ◌^◌, sym, ◌∙◌, arith}
use Rattle.std.proofs.lemmas.Fmt.{decimal_injective}
use Rattle.least_launch.proofs.tail_lines.some_launches.Goals as goal

pub returns-then-number-eq0-clause-none : goal.returns-then-number-eq0-clause-none
returns-then-number-eq0-clause-none c = λ n least small is.
    (let low : c.in_ok-number.number < 2 ^ 64 = (let few = c.in_ok-number.ensures.some.1 in omega (arith, few)) in
    let same = decimal_injective c.in_ok-number.number n low (omega (arith, small))
    (sym c.in_ok-number.ensures.some.0 ∙ is) in
    let zero = c.if-number-eq0.true in
    absurd (omega (arith, same, zero, least)))
