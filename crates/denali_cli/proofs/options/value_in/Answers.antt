use Rattle.std.proofs.Common.{◌<◌, ◌≤◌, ◌∙◌, subst, sym}
use Rattle.denali_cli.proofs.Values.{too_low, too_high, within}
use Rattle.denali_cli.proofs.options.value_in.Goals as goal

pub returns-then-number-from-clause-value : goal.returns-then-number-from-clause-value
returns-then-number-from-clause-value c =
    too_low c.args.low c.args.high c.args.word.now c.in_ok-number.number c.in_ok-number.ensures.some.1
    (sym c.as_bytes.ensures.value ∙ c.in_ok-number.ensures.some.0)
    (subst (λ n. c.in_ok-number.number < n) c.from.ensures c.if-number-from.true)

pub returns-then-from-number-clause-value : goal.returns-then-from-number-clause-value
returns-then-from-number-clause-value c =
    too_high c.args.low c.args.high c.args.word.now c.in_ok-number.number c.in_ok-number.ensures.some.1
    (sym c.as_bytes.ensures.value ∙ c.in_ok-number.ensures.some.0)
    (subst (λ n. n < c.in_ok-number.number) c.from-2.ensures c.if-from-number.true)

pub returns-clause-value : goal.returns-clause-value
returns-clause-value c =
    within c.args.low c.args.high c.args.word.now c.in_ok-number.number c.in_ok-number.ensures.some.1
    (sym c.as_bytes.ensures.value ∙ c.in_ok-number.ensures.some.0)
    (subst (λ n. n ≤ c.in_ok-number.number) c.from.ensures c.if-number-from.false)
    (subst (λ n. c.in_ok-number.number ≤ n) c.from-2.ensures c.if-from-number.false)
