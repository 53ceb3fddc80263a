use Rattle.std.proofs.Common.{eqb, length, sym, arith}
use Rattle.std.proofs.lemmas.Bool.{ne_eqb, eq-eqb}
use Rattle.std.proofs.lemmas.List.Sums.{position_or_len_is}
use Rattle.saturation.proofs.numbering.place_of.Goals as goal

pub returns-then-one-number : goal.returns-then-one-number
returns-then-one-number c =
    let n = c.args.number in
    let l = c.loop-at-test.true in
    sym (position_or_len_is (λ m. eqb m n) c.args.numbers.now c.loop-at.at 0 (omega arith) (λ k b. ne_eqb _ _ (c.loop-at.invariant k b)) (λ _. eq-eqb _ _ c.if-one-number.true))

pub returns : goal.returns
returns c =
    let n = c.args.number in
    let l = c.loop-at-test.false in
    sym (position_or_len_is (λ m. eqb m n) c.args.numbers.now (length c.args.numbers.now) 0 (omega arith) (λ k b. ne_eqb _ _ (c.loop-at.invariant k (omega arith))) (λ b. absurd (omega arith)))
