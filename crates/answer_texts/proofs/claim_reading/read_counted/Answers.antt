use Rattle.std.proofs.Common.{arith}
use Rattle.answer_texts.proofs.PartsFaults.{later_of}
use Rattle.answer_texts.proofs.claim_reading.read_counted.Goals as goal

pub overflow_add-from : goal.overflow_add-from
overflow_add-from c =
    let few = c.in_ok-count.ensures.few in
    let low = c.requires in
    omega (arith, few, low)

pub returns-clause-fault : goal.returns-clause-fault
returns-clause-fault c =
    later_of _ _ _ c.args.from _ c.in_ok-count.count c.in_ok-count.ensures.ok c.read_lines.result c.read_lines.ensures.fault
