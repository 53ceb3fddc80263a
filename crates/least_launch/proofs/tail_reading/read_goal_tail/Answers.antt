use Rattle.std.proofs.Common.{refl}
use Rattle.std.proofs.lemmas.Result.{err_from_is_err_and}
use Rattle.least_launch.proofs.Behind.{said_within}
use Rattle.least_launch.proofs.tail_reading.read_goal_tail.Goals as goal

pub returns-in_err-tail-in-Scheduled-clause-fault : goal.returns-in_err-tail-in-Scheduled-clause-fault
returns-in_err-tail-in-Scheduled-clause-fault c =
    let p = err_from_is_err_and c.from_residual.result c.from_residual.ensures.1 in
    rw (p.1, p.2, c.in-Scheduled.is) c.in_err-tail-in-Scheduled.ensures.fault

pub returns-in_ok-tail-in-Scheduled-clause-ok : goal.returns-in_ok-tail-in-Scheduled-clause-ok
returns-in_ok-tail-in-Scheduled-clause-ok c =
    rw c.in-Scheduled.is
    (record {
      middle = c.in_ok-tail-in-Scheduled.next;
      said = c.in_ok-tail-in-Scheduled.tail;
      first = c.in_ok-tail-in-Scheduled.ensures.ok;
      second = record { stays = refl; is = refl };
    })

pub returns-in_ok-tail-in-Scheduled-clause-within : goal.returns-in_ok-tail-in-Scheduled-clause-within
returns-in_ok-tail-in-Scheduled-clause-within c =
    said_within c.args.text.now c.args.from c.in_ok-tail-in-Scheduled.next c.in_ok-tail-in-Scheduled.tail
    c.in_ok-tail-in-Scheduled.ensures.ok

pub returns-in-NoWorld-clause-ok : goal.returns-in-NoWorld-clause-ok
returns-in-NoWorld-clause-ok c = rw c.in-NoWorld.is (record { stays = refl; is = refl })

pub returns-in-Missing-clause-ok : goal.returns-in-Missing-clause-ok
returns-in-Missing-clause-ok c = rw c.in-Missing.is (record { stays = refl; is = refl })

pub returns-in-SpentConflicts-clause-ok : goal.returns-in-SpentConflicts-clause-ok
returns-in-SpentConflicts-clause-ok c = rw c.in-SpentConflicts.is (record { stays = refl; is = refl })

pub returns-in-SpentSize-clause-ok : goal.returns-in-SpentSize-clause-ok
returns-in-SpentSize-clause-ok c = rw c.in-SpentSize.is (record { stays = refl; is = refl })
