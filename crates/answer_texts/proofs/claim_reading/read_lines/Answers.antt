use Rattle.std.proofs.Common.{arith}
use Rattle.answer_texts.proofs.PartsWithin.{counted_within}
use Rattle.answer_texts.proofs.claim_reading.read_lines.Goals as goal

pub overflow_add-result : goal.overflow_add-result
overflow_add-result c =
    let few = c.requires.few in
    let end = counted_within c.args.text.now c.args.from c.args.count c.in_ok-lines.lines.lines c.requires.from
    c.in_ok-lines.ensures.ok in
    omega (arith, few, end)
