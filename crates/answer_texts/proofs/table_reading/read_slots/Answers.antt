use Rattle.std.proofs.Common.{◌+◌, ◌<◌, length, sym, subst, arith}
use Rattle.answer_texts.specs.AnswerLines.{slot_words}
use Rattle.answer_texts.specs.AnswerParts.{AreNamedSlots}
use Rattle.answer_texts.specs.LineParts.{AreLinesTo}
use Rattle.answer_texts.proofs.WordsRuns.{more_lines}
use Rattle.answer_texts.proofs.table_reading.read_slots.Goals as goal

pub loop-line-preserved : goal.loop-line-preserved
loop-line-preserved c =
    let lines = c.args.text.now in
    let lt : c.loop-line.line < length lines = (let n = c.count-line-end.ensures.count in let l = c.loop-line-test.true in omega arith) in
    let found = rw c.in-Some.is at c.in_ok-slot.ensures in
    let read = rw c.as_slice.ensures at found in
    subst (AreLinesTo slot_words AreNamedSlots lines c.args.from (c.loop-line.line + 1)) (sym c.in_ok-push-in-Some.ensures.ok)
    (more_lines slot_words AreNamedSlots lines c.args.from c.loop-line.line c.loop-line.slots c.in-Some.slot c.loop-line.invariant lt read.0 read.1)
