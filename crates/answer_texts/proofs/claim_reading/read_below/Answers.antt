use Rattle.std.proofs.lemmas.Result.{err_from_is_err_and}
use Rattle.answer_texts.proofs.PartsBelow.{below_none, below_some, below_fault}
use Rattle.answer_texts.proofs.claim_reading.read_below.Goals as goal

pub returns-then-k-eq0-clause-ok : goal.returns-then-k-eq0-clause-ok
returns-then-k-eq0-clause-ok c = below_none c.args.text.now c.args.k c.args.from c.if-k-eq0.true

pub returns-in_err-lines-clause-fault : goal.returns-in_err-lines-clause-fault
returns-in_err-lines-clause-fault c =
    let p = err_from_is_err_and c.from_residual.result c.from_residual.ensures.1 in
    rw (p.1, p.2) (below_fault c.args.text.now c.args.k c.args.from _ c.if-k-eq0.false c.in_err-lines.ensures.fault)

pub returns-clause-ok : goal.returns-clause-ok
returns-clause-ok c =
    below_some c.args.text.now c.args.k c.args.from c.in_ok-lines.next c.in_ok-lines.lines c.if-k-eq0.false
    c.in_ok-lines.ensures.ok
