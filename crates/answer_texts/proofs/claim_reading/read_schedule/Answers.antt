use Rattle.std.proofs.lemmas.Result.{err_from_is_err_and}
use Rattle.answer_texts.proofs.PartsFaults.{sooner, later}
use Rattle.answer_texts.proofs.claim_reading.read_schedule.Goals as goal

pub returns-in_err-words-clause-fault : goal.returns-in_err-words-clause-fault
returns-in_err-words-clause-fault c =
    let p = err_from_is_err_and c.from_residual-in_err-words.result c.from_residual-in_err-words.ensures.1 in
    rw (p.1, p.2)
    (later _ _ _ c.args.from c.in_ok-launches.behind_launches c.in_ok-launches.launches c.in_ok-launches.ensures.ok _
    (sooner _ _ _ c.in_ok-launches.behind_launches _ c.in_err-words.ensures.fault))

pub returns-in_err-places-clause-fault : goal.returns-in_err-places-clause-fault
returns-in_err-places-clause-fault c =
    let p = err_from_is_err_and c.from_residual-in_err-places.result c.from_residual-in_err-places.ensures.1 in
    rw (p.1, p.2)
    (later _ _ _ c.args.from c.in_ok-launches.behind_launches c.in_ok-launches.launches c.in_ok-launches.ensures.ok _
    (later _ _ _ c.in_ok-launches.behind_launches c.in_ok-words.behind_words c.in_ok-words.words c.in_ok-words.ensures.ok _
    (sooner _ _ _ c.in_ok-words.behind_words _ c.in_err-places.ensures.fault)))

pub returns-in_err-refute-clause-fault : goal.returns-in_err-refute-clause-fault
returns-in_err-refute-clause-fault c =
    let p = err_from_is_err_and c.from_residual-in_err-refute.result c.from_residual-in_err-refute.ensures.1 in
    rw (p.1, p.2)
    (later _ _ _ c.args.from c.in_ok-launches.behind_launches c.in_ok-launches.launches c.in_ok-launches.ensures.ok _
    (later _ _ _ c.in_ok-launches.behind_launches c.in_ok-words.behind_words c.in_ok-words.words c.in_ok-words.ensures.ok _
    (later _ _ _ c.in_ok-words.behind_words c.in_ok-places.behind_places c.in_ok-places.places c.in_ok-places.ensures.ok _
    (sooner _ _ _ c.in_ok-places.behind_places _ c.in_err-refute.ensures.fault))))
