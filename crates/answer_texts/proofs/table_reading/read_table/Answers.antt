use Rattle.std.proofs.Common.{◌+◌, sym, subst}
use Rattle.std.proofs.lemmas.Result.{err_from_is_err_and}
use Rattle.text_core.specs.Faults.{IsFaultBy}
use Rattle.answer_texts.specs.AnswerParts.{TableRestFault}
use Rattle.answer_texts.proofs.PartsFaults.{sooner, later}
use Rattle.answer_texts.proofs.table_reading.read_table.Goals as goal

pub returns-in_err-table-in-Own-clause-fault : goal.returns-in_err-table-in-Own-clause-fault
returns-in_err-table-in-Own-clause-fault c =
    let p = err_from_is_err_and c.from_residual-in_err-table-in-Own.result c.from_residual-in_err-table-in-Own.ensures.1 in
    rw (p.1, p.2)
    (later _ _ _ c.args.from (c.args.from + 1) c.in_ok-read_table_line.field-0 c.in_ok-read_table_line.ensures.ok _
    (subst (λ first. IsFaultBy (TableRestFault c.args.text.now first (c.args.from + 1)) c.in_err-table-in-Own.field-0.0)
    (sym c.in-Own.is)
    (sooner _ _ _ (c.args.from + 1) _ c.in_err-table-in-Own.ensures.fault)))
