use Rattle.std.proofs.Common.{◌≡◌, ◌+◌, ◌*◌, length, refl, ap, arith}
use Rattle.answer_texts.proofs.HexDigits.{no_digits, one_digit, eight_low, whole_text, not_eight, no_digit}
use Rattle.answer_texts.proofs.word_lines.hex_word.Goals as goal

pub returns-then-digits-ne8 : goal.returns-then-digits-ne8
returns-then-digits-ne8 c = λ word low is. not_eight c.args.digits.now word c.if-digits-ne8.true is

pub loop-byte-init : goal.loop-byte-init
loop-byte-init c = no_digits c.args.digits.now

pub returns-in_err-digit : goal.returns-in_err-digit
returns-in_err-digit c =
    rw c.from_residual.ensures (λ word low is. no_digit c.args.digits.now c.loop-byte.byte-index _ word c.loop-byte-test.true refl c.in_err-digit.ensures.none is)

pub loop-byte-preserved : goal.loop-byte-preserved
loop-byte-preserved c =
    one_digit c.args.digits.now c.loop-byte.byte-index c.loop-byte.word _ c.in_ok-digit.digit _ c.loop-byte.invariant c.loop-byte-test.true refl
    c.in_ok-digit.ensures.some.0 c.in_ok-digit.ensures.some.1 (ap (λ n. c.loop-byte.word * 16 + n) c.from.ensures)

pub returns : goal.returns
returns c =
    let all = c.loop-byte-test.false in
    let end = c.loop-byte.auto.byte-index-end in
    let eight : length c.args.digits.now ≡ 8 = c.if-digits-ne8.false in
    let digits = c.args.digits.now in
    let front = c.loop-byte.invariant in (
      eight_low digits c.loop-byte.byte-index c.loop-byte.word front (omega arith),
      whole_text digits c.loop-byte.byte-index c.loop-byte.word front eight (omega arith),
    )
