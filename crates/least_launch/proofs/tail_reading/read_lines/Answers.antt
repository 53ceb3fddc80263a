use Rattle.std.proofs.Common.{arith}
use Rattle.answer_texts.proofs.PartsWithin.{counted_within}
use Rattle.least_launch.proofs.tail_reading.read_lines.Goals as goal

pub overflow_add-result : goal.overflow_add-result
overflow_add-result c =
    let few = c.requires.few in
    let end = counted_within c.args.text.now c.args.from c.args.count c.in_ok-lines.lines.lines c.requires.from
    c.in_ok-lines.ensures.ok in
    omega (arith, few, end)

pub returns-clause-few : goal.returns-clause-few
returns-clause-few c =
    let few = c.requires.few in
    let end = counted_within c.args.text.now c.args.from c.args.count c.in_ok-lines.lines.lines c.requires.from
    c.in_ok-lines.ensures.ok in
    let size = c.in_ok-lines.ensures.ok.size in
    omega (arith, few, end, size)
