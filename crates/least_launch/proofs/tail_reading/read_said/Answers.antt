use Rattle.std.proofs.Common.{arith}
use Rattle.answer_texts.proofs.PartsFaults.{later_of}
use Rattle.least_launch.proofs.tail_reading.read_said.Goals as goal

pub overflow_add-from : goal.overflow_add-from
overflow_add-from c =
    let few = c.in_ok-first.ensures.few in
    let low = c.requires in
    omega (arith, few, low)

pub returns-clause-fault : goal.returns-clause-fault
returns-clause-fault c =
    later_of _ _ _ c.args.from _ c.in_ok-first.first c.in_ok-first.ensures.ok c.read_rest.result
    c.read_rest.ensures.fault
