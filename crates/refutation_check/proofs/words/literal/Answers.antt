use Rattle.refutation_check.proofs.Wording.{minus-first, no-literal}
use Rattle.refutation_check.proofs.words.literal.Goals as goal

pub returns-in-Some-clause-none : goal.returns-in-Some-clause-none
returns-in-Some-clause-none c =
    no-literal c.signed.result c.args.word.now c.in-Some.digits.now (minus-first c.args.word.now c.in-Some.digits.now c.in-Some.ensures.cases.0 c.in-Some.ensures.cases.1) c.signed.ensures.none
