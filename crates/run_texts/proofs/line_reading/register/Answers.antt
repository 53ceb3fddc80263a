use Rattle.std.proofs.Common.{sym, ◌∙◌, arith}
use Rattle.std.proofs.lemmas.Fmt.{decimal_injective}
use Rattle.run_texts.proofs.line_reading.register.Goals as goal

pub returns-else-number-lt-REGISTERS-clause-none : goal.returns-else-number-lt-REGISTERS-clause-none
returns-else-number-lt-REGISTERS-clause-none c = λ n small is.
    (let never = c.if-number-lt-REGISTERS.false in
    let same = decimal_injective c.in_ok-number.number n (omega arith) (omega arith) (sym c.in_ok-number.ensures.some.0 ∙ is) in
    absurd (omega arith))
