use Rattle.std.proofs.Common.{◌≡◌, ◌<◌, arith, length}
use Rattle.launch_graph.proofs.HeaderLines.{no_line_first, no_header_first}
use Rattle.launch_graph.proofs.reading.read_header.Goals as goal

pub returns-then-from-count-clause-fault : goal.returns-then-from-count-clause-fault
returns-then-from-count-clause-fault c = λ version.
    (let end : c.args.from ≡ length c.args.text.now = (let e = c.count.ensures.count in let l = c.if-from-count.true in omega (arith, e, l)) in
    no_line_first version c.args.text.now c.args.from c.requires c.line_fault.result end c.line_fault.ensures)

pub returns-in-None-clause-fault : goal.returns-in-None-clause-fault
returns-in-None-clause-fault c = λ version.
    (let lt : c.args.from < length c.args.text.now = (let e = c.count.ensures.count in let l = c.if-from-count.false in let r = c.requires in omega arith) in
    no_header_first version c.args.text.now c.args.from c.requires c.line_fault-in-None.result lt c.in-None.ensures c.line_fault-in-None.ensures)
