use Rattle.std.proofs.Common.{◌+◌}
use Rattle.std.proofs.lemmas.Result.{err_from_is_err_and}
use Rattle.answer_texts.proofs.PartsFaults.{sooner, later}
use Rattle.answer_texts.proofs.PartsPrintedGoals.{has_body}
use Rattle.answer_texts.proofs.goal_reading.read_goal.Goals as goal

pub returns-in_err-body-clause-fault : goal.returns-in_err-body-clause-fault
returns-in_err-body-clause-fault c =
    let p = err_from_is_err_and c.from_residual-in_err-body.result c.from_residual-in_err-body.ensures.1 in
    rw (p.1, p.2)
    (later _ _ _ c.args.from (c.args.from + 1) _ c.in_ok-name.ensures.ok _
    (sooner _ _ _ (c.args.from + 1) _ c.in_err-body.ensures.fault))

pub read_end-requires : goal.read_end-requires
read_end-requires c =
    (has_body c.args.text.now c.args.version c.args.table.now (c.args.from + 1) c.in_ok-body.middle c.in_ok-body.body
    c.in_ok-body.ensures.ok).within

pub returns-in_err-read_end-clause-fault : goal.returns-in_err-read_end-clause-fault
returns-in_err-read_end-clause-fault c =
    let p = err_from_is_err_and c.from_residual-in_err-read_end.result c.from_residual-in_err-read_end.ensures.1 in
    rw (p.1, p.2)
    (later _ _ _ c.args.from (c.args.from + 1) _ c.in_ok-name.ensures.ok _
    (later _ _ _ (c.args.from + 1) c.in_ok-body.middle c.in_ok-body.body c.in_ok-body.ensures.ok _
    (sooner _ _ _ c.in_ok-body.middle _ c.in_err-read_end.ensures.fault)))
