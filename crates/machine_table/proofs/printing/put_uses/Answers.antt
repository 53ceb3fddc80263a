use Rattle.std.proofs.Common.{arith}
use Rattle.machine_table.proofs.Printed.{all_printed}
use Rattle.machine_table.specs.Printing.{use_plain}
use Rattle.machine_table.proofs.printing.put_uses.Goals as goal

pub returns : goal.returns
returns c = all_printed (use_plain c.args.table.now) c.args.uses.now c.loop-one.one-index _ _ (omega (arith, c.loop-one-test.false)) c.loop-one.invariant
