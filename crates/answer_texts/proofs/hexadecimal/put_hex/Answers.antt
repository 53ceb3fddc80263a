-- One digit more.
use Rattle.answer_texts.proofs.PrintDigits.{hex_more}
use Rattle.answer_texts.proofs.hexadecimal.put_hex.Goals as goal

pub loop-at-preserved : goal.loop-at-preserved
loop-at-preserved c = hex_more _ _ _ c.args.word c.loop-at.at _ c.loop-at-test.true c.loop-at.invariant c.in_ok-push.ensures.items c.hex_digit.ensures
