use Rattle.std.proofs.Common.{◌≡◌, ◌<◌, length, refl, ◌∙◌, arith}
use Rattle.run_texts.proofs.Digits.{no_digit, below, digit_more, digits_more_at}
use Rattle.run_texts.proofs.line_reading.hex_word.Goals as goal

pub returns-in_err-digit : goal.returns-in_err-digit
returns-in_err-digit c =
    rw c.from_residual.ensures (no_digit c.args.digits.now c.loop-byte.byte-index c.from.result c.loop-byte-test.true c.from.ensures c.in_err-digit.ensures.value)

pub overflow_mul-word : goal.overflow_mul-word
overflow_mul-word c =
    let eight : length c.args.digits.now ≡ 8 = c.if-digits-ne8.false in
    let lt : c.loop-byte.byte-index < length c.args.digits.now = c.loop-byte-test.true in
    let low = below c.args.digits.now c.loop-byte.byte-index 7 (omega arith) (omega arith) c.loop-byte.invariant.each in
    let is = c.loop-byte.invariant.word in
    omega arith

pub overflow_add-word : goal.overflow_add-word
overflow_add-word c =
    let eight : length c.args.digits.now ≡ 8 = c.if-digits-ne8.false in
    let lt : c.loop-byte.byte-index < length c.args.digits.now = c.loop-byte-test.true in
    let low = below c.args.digits.now c.loop-byte.byte-index 7 (omega arith) (omega arith) c.loop-byte.invariant.each in
    let is = c.loop-byte.invariant.word in
    let digit = c.in_ok-digit.ensures.value in
    let small = digit.0 in
    let value = digit.1 in
    let same = c.from-in-loop-byte.ensures in
    omega arith

pub loop-byte-preserved : goal.loop-byte-preserved
loop-byte-preserved c =
    record {
      each = digits_more_at c.args.digits.now c.loop-byte.byte-index c.from.result c.loop-byte-test.true c.from.ensures c.loop-byte.invariant.each c.in_ok-digit.ensures.value.0;
      word = digit_more c.args.digits.now c.loop-byte.byte-index c.loop-byte.word c.from.result c.from-in-loop-byte.result _ c.loop-byte-test.true c.loop-byte.invariant.word c.from.ensures
          (c.from-in-loop-byte.ensures ∙ c.in_ok-digit.ensures.value.1) refl;
    }
