use Rattle.std.proofs.Common.{refl}
use Rattle.std.proofs.lemmas.Result.{err_from_is_err_and}
use Rattle.answer_texts.proofs.PartsFaults.{sooner}
use Rattle.least_launch.proofs.tail_reading.read_rest.Goals as goal

pub returns-in_err-lines-in-Least-clause-fault : goal.returns-in_err-lines-in-Least-clause-fault
returns-in_err-lines-in-Least-clause-fault c =
    let p = err_from_is_err_and c.from_residual.result c.from_residual.ensures.1 in
    rw (p.1, p.2, c.in-Least.is) (sooner _ _ _ c.args.from _ c.in_err-lines-in-Least.ensures.fault)

pub returns-in_err-lines-in-Spent-clause-fault : goal.returns-in_err-lines-in-Spent-clause-fault
returns-in_err-lines-in-Spent-clause-fault c =
    let p = err_from_is_err_and c.from_residual-in_err-lines-in-Spent.result
    c.from_residual-in_err-lines-in-Spent.ensures.1 in
    rw (p.1, p.2, c.in-Spent.is) (sooner _ _ _ c.args.from _ c.in_err-lines-in-Spent.ensures.fault)

pub returns-in_ok-lines-in-Least-clause-ok : goal.returns-in_ok-lines-in-Least-clause-ok
returns-in_ok-lines-in-Least-clause-ok c =
    rw c.in-Least.is
    (record {
      middle = c.in_ok-lines-in-Least.next;
      said = c.in_ok-lines-in-Least.lines;
      first = c.in_ok-lines-in-Least.ensures.ok;
      second = record { stays = refl; is = refl };
    })

pub returns-in_ok-lines-in-Spent-clause-ok : goal.returns-in_ok-lines-in-Spent-clause-ok
returns-in_ok-lines-in-Spent-clause-ok c =
    rw c.in-Spent.is
    (record {
      middle = c.in_ok-lines-in-Spent.next;
      said = c.in_ok-lines-in-Spent.lines;
      first = c.in_ok-lines-in-Spent.ensures.ok;
      second = record { stays = refl; is = refl };
    })

pub returns-in-Size-clause-ok : goal.returns-in-Size-clause-ok
returns-in-Size-clause-ok c = rw c.in-Size.is (record { stays = refl; is = refl })
