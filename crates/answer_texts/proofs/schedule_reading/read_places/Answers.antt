use Rattle.std.proofs.Common.{◌<◌, ◌+◌, length, codes, arith, sym, subst}
use Rattle.text_core.specs.Lines.{line_at}
use Rattle.answer_texts.specs.AnswerLines.{where_words}
use Rattle.answer_texts.specs.AnswerParts.{AreWherePlaces, IsPlace}
use Rattle.answer_texts.specs.LineParts.{AreLinesTo}
use Rattle.answer_texts.proofs.WordsRuns.{ReadsLine, more_lines, bad_next, fits_alone, fits_behind}
use Rattle.answer_texts.proofs.schedule_reading.read_places.Goals as goal

pub returns-in-None-clause-fault : goal.returns-in-None-clause-fault
returns-in-None-clause-fault c =
    let lines = c.args.text.now in
    let line = c.loop-line.line in
    let lt : line < length lines = (let e = c.count-line-end.ensures.count in let l = c.loop-line-test.true in omega (arith, e, l)) in
    let none = subst (ReadsLine where_words AreWherePlaces (line_at lines line).words) c.in-None.is c.in_ok-place.ensures in
    bad_next where_words AreWherePlaces lines c.args.from (codes "where") line c.loop-line.places c.loop-line.invariant c.bad_line.result lt
    (c.begins_with.ensures.0 c.if-not-begins_with.false) (λ x is fit. none x is (fits_alone IsPlace c.loop-line.places x fit)) c.bad_line.ensures

pub loop-line-preserved : goal.loop-line-preserved
loop-line-preserved c =
    let lines = c.args.text.now in
    let line = c.loop-line.line in
    let lt : line < length lines = (let e = c.count-line-end.ensures.count in let l = c.loop-line-test.true in omega (arith, e, l)) in
    let is = subst (ReadsLine where_words AreWherePlaces (line_at lines line).words) c.in-Some.is c.in_ok-place.ensures in
    subst (AreLinesTo where_words AreWherePlaces lines c.args.from (line + 1)) (sym c.in_ok-push-in-Some.ensures.ok)
    (more_lines where_words AreWherePlaces lines c.args.from line c.loop-line.places c.in-Some.place c.loop-line.invariant lt
    is.0 (fits_behind IsPlace c.loop-line.places c.in-Some.place c.loop-line.invariant.fit is.1))
