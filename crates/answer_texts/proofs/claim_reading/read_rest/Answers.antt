use Rattle.std.proofs.Common.{refl}
use Rattle.std.proofs.lemmas.Result.{err_from_is_err_and}
use Rattle.answer_texts.proofs.PartsFaults.{sooner, later}
use Rattle.answer_texts.proofs.PartsPrinted.{has_below}
use Rattle.answer_texts.proofs.claim_reading.read_rest.Goals as goal

pub returns-in_err-lines-in-Missing-clause-fault : goal.returns-in_err-lines-in-Missing-clause-fault
returns-in_err-lines-in-Missing-clause-fault c =
    let p = err_from_is_err_and c.from_residual.result c.from_residual.ensures.1 in
    rw (p.1, p.2, c.in-Missing.is) (sooner _ _ _ c.args.from _ c.in_err-lines-in-Missing.ensures.fault)

pub returns-in_err-refute-in-Conflicts-clause-fault : goal.returns-in_err-refute-in-Conflicts-clause-fault
returns-in_err-refute-in-Conflicts-clause-fault c =
    let p = err_from_is_err_and c.from_residual-in_err-refute-in-Conflicts.result
    c.from_residual-in_err-refute-in-Conflicts.ensures.1 in
    rw (p.1, p.2, c.in-Conflicts.is) (sooner _ _ _ c.args.from _ c.in_err-refute-in-Conflicts.ensures.fault)

pub read_counted-requires-in-Conflicts : goal.read_counted-requires-in-Conflicts
read_counted-requires-in-Conflicts c =
    (has_below c.args.text.now c.in-Conflicts.k c.args.from c.in_ok-refute-in-Conflicts.middle
    c.in_ok-refute-in-Conflicts.refute c.requires c.in_ok-refute-in-Conflicts.ensures.ok).within

pub returns-in_err-lemmas-in-Conflicts-clause-fault : goal.returns-in_err-lemmas-in-Conflicts-clause-fault
returns-in_err-lemmas-in-Conflicts-clause-fault c =
    let p = err_from_is_err_and c.from_residual-in_err-lemmas-in-Conflicts.result
    c.from_residual-in_err-lemmas-in-Conflicts.ensures.1 in
    rw (p.1, p.2, c.in-Conflicts.is)
    (later _ _ _ c.args.from c.in_ok-refute-in-Conflicts.middle c.in_ok-refute-in-Conflicts.refute
    c.in_ok-refute-in-Conflicts.ensures.ok _
    (sooner _ _ _ c.in_ok-refute-in-Conflicts.middle _ c.in_err-lemmas-in-Conflicts.ensures.fault))

pub returns-in_err-refute-in-Size-clause-fault : goal.returns-in_err-refute-in-Size-clause-fault
returns-in_err-refute-in-Size-clause-fault c =
    let p = err_from_is_err_and c.from_residual-in_err-refute-in-Size.result c.from_residual-in_err-refute-in-Size.ensures.1 in
    rw (p.1, p.2, c.in-Size.is) (sooner _ _ _ c.args.from _ c.in_err-refute-in-Size.ensures.fault)

pub returns-in-Scheduled-clause-ok : goal.returns-in-Scheduled-clause-ok
returns-in-Scheduled-clause-ok c = rw c.in-Scheduled.is c.read_schedule.ensures.ok

pub returns-in-Scheduled-clause-fault : goal.returns-in-Scheduled-clause-fault
returns-in-Scheduled-clause-fault c = rw c.in-Scheduled.is c.read_schedule.ensures.fault

pub returns-in_ok-lines-in-Missing-clause-ok : goal.returns-in_ok-lines-in-Missing-clause-ok
returns-in_ok-lines-in-Missing-clause-ok c =
    rw c.in-Missing.is
    (record {
      middle = c.in_ok-lines-in-Missing.next;
      said = c.in_ok-lines-in-Missing.lines;
      first = c.in_ok-lines-in-Missing.ensures.ok;
      second = record { stays = refl; is = refl };
    })

pub returns-in_ok-lemmas-in-Conflicts-clause-ok : goal.returns-in_ok-lemmas-in-Conflicts-clause-ok
returns-in_ok-lemmas-in-Conflicts-clause-ok c =
    rw c.in-Conflicts.is
    (record {
      middle = c.in_ok-refute-in-Conflicts.middle;
      said = c.in_ok-refute-in-Conflicts.refute;
      first = c.in_ok-refute-in-Conflicts.ensures.ok;
      second = record {
        middle = c.in_ok-lemmas-in-Conflicts.next;
        said = c.in_ok-lemmas-in-Conflicts.lemmas;
        first = c.in_ok-lemmas-in-Conflicts.ensures.ok;
        second = record { stays = refl; is = refl };
      };
    })

pub returns-in_ok-refute-in-Size-clause-ok : goal.returns-in_ok-refute-in-Size-clause-ok
returns-in_ok-refute-in-Size-clause-ok c =
    rw c.in-Size.is
    (record {
      middle = c.in_ok-refute-in-Size.next;
      said = c.in_ok-refute-in-Size.refute;
      first = c.in_ok-refute-in-Size.ensures.ok;
      second = record { stays = refl; is = refl };
    })
