use Rattle.std.proofs.Common.{false, arith}
use Rattle.sat_core.proofs.Marking.{late_unmarked, late_early}
use Rattle.sat_core.proofs.conflict.unmark.Goals as goal

pub returns-then-last-index-clause-count : goal.returns-then-last-index-clause-count
returns-then-last-index-clause-count c = late_unmarked c.args.last c.args.index c.args.seen.now c.requires.within c.if-last-index.true c.requires.marked

pub returns-clause-count : goal.returns-clause-count
returns-clause-count c = (let e = late_early c.args.last c.args.index c.args.seen.now false c.if-last-index.false in omega arith)
