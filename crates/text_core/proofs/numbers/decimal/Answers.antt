use Rattle.std.proofs.Common.{◌<◌, length, arith}
use Rattle.std.proofs.lemmas.Bool.Decides.{nat_tests}
use Rattle.text_core.proofs.Decimals.{written, below_limit, some_digit, no_needless_zero}
use Rattle.text_core.proofs.Values.{some_weaker, none_weaker}
use Rattle.text_core.proofs.numbers.decimal.Goals.{else-word-eq48-via-then-word-eq48+else-word-gt1, else-word-eq48-via-else-word-eq48}
use Rattle.text_core.proofs.numbers.decimal.Goals as goal

pub returns-then-is_empty-clause-none : goal.returns-then-is_empty-clause-none
returns-then-is_empty-clause-none c = λ n small is.
    (let some = some_digit c.args.word.now n small is in grind (arith, nat_tests, some, c.if-is_empty.ensures))

pub returns-then-word-gt1-clause-none : goal.returns-then-word-gt1-clause-none
returns-then-word-gt1-clause-none c = λ n small is. no_needless_zero c.args.word.now n small is c.if-word-eq48.true c.if-word-gt1.true

pub returns-clause-some : goal.returns-clause-some
returns-clause-some c =
    let some : 0 < length c.args.word.now = grind (arith, nat_tests, c.if-is_empty.ensures) in
    some_weaker c.value.result _ _ (λ n h. (
      written c.args.word.now some
          (λ zero. elim c.else-word-eq48.branch [
            | else-word-eq48-via-then-word-eq48+else-word-gt1 w ↦ (let few = w.if-word-gt1.false in omega arith)
            | else-word-eq48-via-else-word-eq48 w ↦ (let other = w.if-word-eq48.false in absurd (other zero))
          ]) h.0 n h.1,
      (let limit = h.0.limit in let is = h.1 in omega arith),
    )) c.value.ensures.some

pub returns-clause-none : goal.returns-clause-none
returns-clause-none c = none_weaker c.value.result (λ never n small is. never (below_limit c.args.word.now n small is)) c.value.ensures.none
