use Rattle.std.proofs.lemmas.Result.{err_from_is_err_and}
use Rattle.answer_texts.proofs.PartsFaults.{fault_by}
use Rattle.answer_texts.specs.LineParts.{IsBadOrMissingLine}
use Rattle.answer_texts.specs.ReadAnswers.{IsAnswerFault}
use Rattle.std.proofs.Common.{length, subst, ℕ}
use Rattle.text_core.specs.Faults.{IsFaultBy}
use Rattle.text_core.specs.Lines.{IsFirstLineFault}
use Rattle.least_launch.specs.TailedAnswers.{IsTailedFault, missing, of_lines, of_whole}
use Rattle.least_launch.proofs.Checked.{where_none, where_some}
use Rattle.least_launch.proofs.tail_reading.read_tailed.Goals as goal

pub returns-in_err-split-clause-fault : goal.returns-in_err-split-clause-fault
returns-in_err-split-clause-fault c =
    let p = err_from_is_err_and c.from_residual.result c.from_residual.ensures.1 in
    rw (p.1, p.2)
    (fault_by (IsFirstLineFault c.args.text.now) (IsTailedFault c.args.text.now) (λ place kind bad. of_lines bad)
    _ c.in_err-split.ensures.fault)

pub read_around-requires-clause-at : goal.read_around-requires-clause-at
read_around-requires-clause-at c = where_some _ _ c.tail_line.result c.in-Some.at c.in-Some.is c.tail_line.ensures.found

pub returns-in_err-read_answer-in-None-clause-fault : goal.returns-in_err-read_answer-in-None-clause-fault
returns-in_err-read_answer-in-None-clause-fault c =
    let p = err_from_is_err_and c.from_residual-in_err-read_answer-in-None.result
    c.from_residual-in_err-read_answer-in-None.ensures.1 in
    rw (p.1, p.2)
    (fault_by (IsAnswerFault c.args.text.now) (IsTailedFault c.args.text.now)
    (λ place kind bad. of_whole c.in_ok-split.ensures.lines
    (where_none _ c.tail_line.result c.in-None.is c.tail_line.ensures.found) bad)
    _ c.in_err-read_answer-in-None.ensures.fault)

pub returns-clause-fault : goal.returns-clause-fault
returns-clause-fault c =
    let lines = c.in_ok-split.split in
    fault_by (IsBadOrMissingLine lines (length lines)) (IsTailedFault c.args.text.now)
    (λ place kind bad. missing c.in_ok-split.ensures.lines
    (where_none _ c.tail_line.result c.in-None.is c.tail_line.ensures.found) c.in_ok-read_answer-in-None.ensures.answer
    bad)
    c.bad_line.result
    (subst (λ (n : ℕ). IsFaultBy (IsBadOrMissingLine c.in_ok-split.split n) c.bad_line.result) c.count.ensures.count
    c.bad_line.ensures)
