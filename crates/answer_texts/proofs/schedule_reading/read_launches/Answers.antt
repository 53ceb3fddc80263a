use Rattle.std.proofs.Common.{◌<◌, ◌+◌, length, codes, arith, sym, subst}
use Rattle.answer_texts.specs.AnswerLines.{launch_words}
use Rattle.answer_texts.specs.AnswerParts.{AreLaunches, IsLaunch}
use Rattle.answer_texts.specs.LineParts.{AreLinesTo}
use Rattle.answer_texts.proofs.WordsRuns.{more_lines, bad_next, fits_alone, fits_behind}
use Rattle.answer_texts.proofs.schedule_reading.read_launches.Goals as goal

pub returns-in-None-clause-fault : goal.returns-in-None-clause-fault
returns-in-None-clause-fault c =
    let lines = c.args.text.now in
    let table = c.args.table.now in
    let g = c.args.graph.now in
    let line = c.loop-line.line in
    let lt : line < length lines = (let e = c.count-line-end.ensures.count in let l = c.loop-line-test.true in omega (arith, e, l)) in
    bad_next (launch_words table g) (AreLaunches table g) lines c.args.from (codes "launch") line c.loop-line.launches c.loop-line.invariant c.bad_line.result lt
    (c.begins_with.ensures.0 c.if-not-begins_with.false) (λ l is fit. c.in-None.ensures l is (fits_alone (IsLaunch table g) c.loop-line.launches l fit)) c.bad_line.ensures

pub loop-line-preserved : goal.loop-line-preserved
loop-line-preserved c =
    let lines = c.args.text.now in
    let table = c.args.table.now in
    let g = c.args.graph.now in
    let line = c.loop-line.line in
    let lt : line < length lines = (let e = c.count-line-end.ensures.count in let l = c.loop-line-test.true in omega (arith, e, l)) in
    subst (AreLinesTo (launch_words table g) (AreLaunches table g) lines c.args.from (line + 1)) (sym c.in_ok-push-in-Some.ensures.ok)
    (more_lines (launch_words table g) (AreLaunches table g) lines c.args.from line c.loop-line.launches c.in-Some.launch c.loop-line.invariant lt
    c.in-Some.ensures.0 (fits_behind (IsLaunch table g) c.loop-line.launches c.in-Some.launch c.loop-line.invariant.fit c.in-Some.ensures.1))
