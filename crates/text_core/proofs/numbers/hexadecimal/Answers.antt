use Rattle.std.proofs.Common.{◌≡◌, ◌≢◌, [], length, ap, refl, arith}
use Rattle.std.proofs.lemmas.Bool.Decides.{nat_tests}
use Rattle.text_core.proofs.Values.{hexadecimal_is, hexadecimal_only, some_weaker, none_weaker}
use Rattle.text_core.proofs.numbers.hexadecimal.Goals as goal

pub returns-clause-some : goal.returns-clause-some
returns-clause-some c =
    let some : c.args.digits.now ≢ [] = λ none. let empty : length c.args.digits.now ≡ 0 = ap length none in grind (arith, nat_tests, empty, c.if-is_empty.ensures) in
    some_weaker c.value.result _ _ (λ n h. hexadecimal_is _ c.args.digits.now refl some c.if-digits-gt-MOST_DIGITS.false n h.0 h.1) c.value.ensures.some

pub returns-clause-none : goal.returns-clause-none
returns-clause-none c = none_weaker c.value.result (λ never n h. never (hexadecimal_only c.args.digits.now n h).2) c.value.ensures.none
