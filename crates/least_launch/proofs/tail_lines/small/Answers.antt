use Rattle.std.proofs.Common.{sym, ◌∙◌, arith}
use Rattle.std.proofs.lemmas.Fmt.{decimal_injective}
use Rattle.least_launch.proofs.tail_lines.small.Goals as goal

pub returns-else-number-lt-LIMIT-clause-none : goal.returns-else-number-lt-LIMIT-clause-none
returns-else-number-lt-LIMIT-clause-none c = λ n small is.
    (let never = c.if-number-lt-LIMIT.false in
    let same = decimal_injective c.in_ok-number.number n c.in_ok-number.ensures.some.1 (omega arith)
    (sym c.in_ok-number.ensures.some.0 ∙ is) in
    absurd (omega arith))
