use Rattle.std.proofs.Common.{sym, ◌∙◌, arith}
use Rattle.refutation_check.proofs.Wording.{decimal-one}
use Rattle.refutation_check.proofs.words.id.Goals as goal

pub returns-in-Some-eq0-clause-none : goal.returns-in-Some-eq0-clause-none
returns-in-Some-eq0-clause-none c = λ n fine is.
    (let found = c.in-Some-eq0.ensures.some in
    let same = decimal-one c.in-Some-eq0.field-0 n found.1 fine.1 (sym found.0 ∙ is) in
    let some = fine.0 in
    absurd (omega arith))
