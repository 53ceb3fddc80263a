use Rattle.std.proofs.Common.{arith, refl, sym, ◌∙◌}
use Rattle.text_core.specs.Lines.{line_at}
use Rattle.answer_texts.proofs.WordsLines.{same_number}
use Rattle.least_launch.proofs.tail_lines.least_line.Goals as goal

pub returns-then-count-ne0 : goal.returns-then-count-ne0
returns-then-count-ne0 c = λ launches count is.
    let few_launches = c.in_ok-launches.ensures.some.1 in
    let few_count = c.in_ok-count.ensures.some.1 in
    let most_launches = is.0 in
    let most_count = is.1 in
    let same_launches = same_number (line_at c.args.text.now c.args.line).words _ 1 c.word.result.now
    c.in_ok-launches.launches
    launches is.3 c.word.ensures.value c.in_ok-launches.ensures.some.0 refl (omega (arith, few_launches))
    (omega (arith, most_launches)) in
    let same_count = same_number (line_at c.args.text.now c.args.line).words _ 2 c.word-2.result.now c.in_ok-count.count
    count is.3 c.word-2.ensures.value c.in_ok-count.ensures.some.0 refl (omega (arith, few_count))
    (omega (arith, most_count)) in
    c.if-count-ne0.true (same_count ∙ is.2 (sym same_launches ∙ c.if-launches-eq0.true))
