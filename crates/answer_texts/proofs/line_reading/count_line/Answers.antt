use Rattle.std.proofs.Common.{◌<◌, ◌^◌, refl, sym, ◌∙◌, arith}
use Rattle.text_core.specs.Lines.{line_at}
use Rattle.answer_texts.proofs.WordsLines.{same_number}
use Rattle.answer_texts.proofs.line_reading.count_line.Goals as goal

pub returns-then-cycles-from : goal.returns-then-cycles-from
returns-then-cycles-from c = λ count is.
    (let range = c.ranges.k.fits in
    let small : c.args.k < 2 ^ 64 = omega arith in
    c.if-cycles-from.true
    (same_number (line_at c.args.text.now c.args.line).words _ 1 c.word.result.now c.in_ok-cycles.cycles c.args.k is.is c.word.ensures.value
    c.in_ok-cycles.ensures.some.0 refl c.in_ok-cycles.ensures.some.1 small ∙ sym c.from.ensures))
