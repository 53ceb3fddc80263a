use Rattle.std.proofs.Common.{◌∙◌, ◌*◌, ap}
use Rattle.text_core.proofs.Values.{digit_stops, product_stops, sum_stops, digit_more}
use Rattle.text_core.proofs.numbers.value.Goals as goal

pub returns-in_err-digit-clause-none : goal.returns-in_err-digit-clause-none
returns-in_err-digit-clause-none c =
    rw c.from_residual.ensures (digit_stops c.args.base c.args.digits.now c.loop-byte.byte-index c.loop-byte.number c.from.result c.requires.low c.loop-byte-test.true c.loop-byte.invariant.number c.from.ensures c.in_err-digit.ensures.value)

pub returns-in_err-checked_mul-clause-none : goal.returns-in_err-checked_mul-clause-none
returns-in_err-checked_mul-clause-none c =
    rw c.from_residual-in_err-checked_mul.ensures (product_stops c.args.base c.args.digits.now c.loop-byte.byte-index c.loop-byte.number c.from.result c.requires.low c.loop-byte-test.true c.loop-byte.invariant.number c.from.ensures c.from-in-loop-byte.result c.from-in-loop-byte.ensures c.in_err-checked_mul.ensures)

pub returns-in_err-number-clause-none : goal.returns-in_err-number-clause-none
returns-in_err-number-clause-none c =
    rw c.from_residual-in_err-number.ensures (sum_stops c.args.base c.args.digits.now c.loop-byte.byte-index c.loop-byte.number c.from.result c.requires.low c.loop-byte-test.true c.loop-byte.invariant.number c.from.ensures c.in_ok-checked_mul.field-0 c.from-in-loop-byte-2.result
    (c.in_ok-checked_mul.ensures.1 ∙ ap (λ b. c.loop-byte.number * b) c.from-in-loop-byte.ensures)
    (c.from-in-loop-byte-2.ensures ∙ c.in_ok-digit.ensures.value.1)
    c.in_err-number.ensures)

pub loop-byte-preserved : goal.loop-byte-preserved
loop-byte-preserved c =
    let more = digit_more c.args.base c.args.digits.now c.loop-byte.byte-index c.loop-byte.number c.from.result c.requires.low c.loop-byte-test.true c.loop-byte.invariant.number c.from.ensures c.in_ok-checked_mul.field-0 c.from-in-loop-byte-2.result c.in_ok-number.number c.loop-byte.invariant.digits
    (c.in_ok-checked_mul.ensures.1 ∙ ap (λ b. c.loop-byte.number * b) c.from-in-loop-byte.ensures)
    (c.from-in-loop-byte-2.ensures ∙ c.in_ok-digit.ensures.value.1)
    c.in_ok-digit.ensures.value.0 c.in_ok-number.ensures.0 c.in_ok-number.ensures.1 in
    record { digits = more.0; number = more.1 }
