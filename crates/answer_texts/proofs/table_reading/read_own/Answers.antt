use Rattle.std.proofs.Common.{◌+◌, subst}
use Rattle.std.proofs.lemmas.Result.{err_from_is_err_and}
use Rattle.text_core.specs.Faults.{IsFaultBy}
use Rattle.answer_texts.specs.AnswerParts.{IsCross, UsesFault}
use Rattle.answer_texts.specs.LineParts.{IsNoLine, IsOneLine}
use Rattle.answer_texts.proofs.PartsFaults.{sooner, later}
use Rattle.answer_texts.proofs.table_reading.read_own.Goals as goal

pub returns-in_err-cross-clause-fault : goal.returns-in_err-cross-clause-fault
returns-in_err-cross-clause-fault c =
    let p = err_from_is_err_and c.from_residual-in_err-cross.result c.from_residual-in_err-cross.ensures.1 in
    rw (p.1, p.2)
    (later _ _ _ c.args.from c.in_ok-slots.middle c.in_ok-slots.slots c.in_ok-slots.ensures.ok _
    (sooner _ _ _ c.in_ok-slots.middle _
    (subst (λ slots. IsFaultBy (IsNoLine (IsCross slots) c.args.text.now c.in_ok-slots.middle) c.in_err-cross.field-0.0)
    c.as_slice.ensures c.in_err-cross.ensures.fault)))

pub returns-in_err-uses-clause-fault : goal.returns-in_err-uses-clause-fault
returns-in_err-uses-clause-fault c =
    let p = err_from_is_err_and c.from_residual-in_err-uses.result c.from_residual-in_err-uses.ensures.1 in
    rw (p.1, p.2)
    (later _ _ _ c.args.from c.in_ok-slots.middle c.in_ok-slots.slots c.in_ok-slots.ensures.ok _
    (later _ _ _ c.in_ok-slots.middle (c.in_ok-slots.middle + 1) c.in_ok-cross.cross
    (subst
    (λ slots. IsOneLine (IsCross slots) c.args.text.now c.in_ok-slots.middle (c.in_ok-slots.middle + 1) c.in_ok-cross.cross)
    c.as_slice.ensures c.in_ok-cross.ensures.ok) _
    (sooner _ _ _ (c.in_ok-slots.middle + 1) _
    (subst
    (λ slots. IsFaultBy (UsesFault c.args.text.now slots c.in_ok-cross.cross (c.in_ok-slots.middle + 1)) c.in_err-uses.field-0.0)
    c.as_slice-2.ensures c.in_err-uses.ensures.fault))))
