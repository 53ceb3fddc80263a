use Rattle.std.proofs.Common.{◌≡◌, ◌<◌, ◌^◌, arith, refl, sym, ◌∙◌, subst}
use Rattle.std.proofs.lemmas.Bool.{false≢true}
use Rattle.text_core.specs.Lines.{line_at}
use Rattle.answer_texts.specs.AnswerParts.{GoTogether}
use Rattle.answer_texts.proofs.PartsKinds.{encoding_low}
use Rattle.answer_texts.proofs.WordsLines.{same_number}
use Rattle.answer_texts.proofs.line_reading.encoding_line.Goals as goal

pub returns-else-go_together : goal.returns-else-go_together
returns-else-go_together c = λ encoding is.
    let low : c.in_ok-encoding.encoding < 2 ^ 64 = (let few = c.in_ok-encoding.ensures.some.1 in omega (arith, few)) in
    let few : encoding < 2 ^ 64 = (let most = encoding_low c.args.version encoding is.known in omega (arith, most)) in
    let same : c.in_ok-encoding.encoding ≡ encoding =
    same_number (line_at c.args.text.now c.args.line).words _ 1 c.word.result.now c.in_ok-encoding.encoding encoding is.is
    c.word.ensures.value c.in_ok-encoding.ensures.some.0 refl low few in
    false≢true
    (sym c.if-go_together.false ∙ c.go_together.ensures.1 (subst (GoTogether c.args.version) (sym same) is.known))
