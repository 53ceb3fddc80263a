use Rattle.std.proofs.Common.{◌+◌, arith}
use Rattle.order_encoding.proofs.Grid.{no_cycle}
use Rattle.order_encoding.proofs.pins.var_after.Goals as goal

pub returns-then-cycle-k : goal.returns-then-cycle-k
returns-then-cycle-k c =
    no_cycle c.args.before (c.args.k + 1) (c.args.cycle + 1) (omega (arith, c.if-cycle-k.true))
