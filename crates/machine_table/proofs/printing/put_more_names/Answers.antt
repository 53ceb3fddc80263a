use Rattle.std.proofs.Common.{arith}
use Rattle.machine_table.proofs.Printed.{all_printed}
use Rattle.machine_table.specs.Printing.{slot_name_plain}
use Rattle.machine_table.proofs.printing.put_more_names.Goals as goal

pub returns : goal.returns
returns c = all_printed (slot_name_plain c.args.table.now) c.args.slots.now c.loop-slot.slot-index _ _ (omega (arith, c.loop-slot-test.false)) c.loop-slot.invariant
