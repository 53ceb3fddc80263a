use Rattle.std.proofs.Common.{◌≡◌, ◌<◌, ◌^◌, arith, refl}
use Rattle.text_core.specs.Lines.{line_at}
use Rattle.answer_texts.proofs.WordsLines.{same_number}
use Rattle.answer_texts.proofs.line_reading.version_line.Goals as goal

pub returns-then-version-eq0 : goal.returns-then-version-eq0
returns-then-version-eq0 c = λ version is.
    let low : c.in_ok-version.version < 2 ^ 64 = (let few = c.in_ok-version.ensures.some.1 in omega (arith, few)) in
    let few : version < 2 ^ 64 = (let most = is.known.1 in omega (arith, most)) in
    let same : c.in_ok-version.version ≡ version =
    same_number (line_at c.args.text.now c.args.line).words _ 1 c.word.result.now c.in_ok-version.version version is.is
    c.word.ensures.value c.in_ok-version.ensures.some.0 refl low few in
    let least = is.known.0 in
    let zero = c.if-version-eq0.true in
    omega (arith, same, least, zero)
