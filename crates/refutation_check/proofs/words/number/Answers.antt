use Rattle.std.proofs.Common.{sym, ◌∙◌, arith}
use Rattle.refutation_check.proofs.Wording.{decimal-same}
use Rattle.refutation_check.proofs.words.number.Goals as goal

pub returns-else-value-clause-none : goal.returns-else-value-clause-none
returns-else-value-clause-none c = λ n small is.
    (let found = c.in_ok-value.ensures.some in
    let same = decimal-same c.in_ok-value.value n found.1 (omega arith) (sym found.0 ∙ is) in
    let large = c.if-value.false in
    absurd (omega arith))
