use Rattle.std.proofs.Common.{◌≡◌, sym, ◌∙◌, arith}
use Rattle.std.proofs.lemmas.Bool.{false≢true}
use Rattle.run_texts.proofs.FrontWords.{goes_on, stops_at, stops_end}
use Rattle.run_texts.proofs.line_reading.word_lines.Goals as goal

pub returns-then-not-begins_with-clause-count : goal.returns-then-not-begins_with-clause-count
returns-then-not-begins_with-clause-count c =
    stops_at c.args.text.now c.loop-line.line (let n = c.count-line-end.ensures.count in let lt = c.loop-line-test.true in omega arith) c.loop-line.invariant
    (λ e. false≢true (sym c.if-not-begins_with.true ∙ c.begins_with.ensures.1 e))

pub loop-line-preserved : goal.loop-line-preserved
loop-line-preserved c = goes_on c.args.text.now c.loop-line.line c.loop-line.invariant (c.begins_with.ensures.0 c.if-not-begins_with.false)

pub returns-clause-count : goal.returns-clause-count
returns-clause-count c =
    let n = c.count-line-end.ensures.count in
    let m = c.count.ensures.count in
    let all = c.loop-line-test.false in
    let end = c.loop-line.auto.line-end in
    let same : c.count.result ≡ c.loop-line.line = omega arith in
    same ∙ stops_end c.args.text.now c.loop-line.line (omega arith) (omega arith) c.loop-line.invariant
