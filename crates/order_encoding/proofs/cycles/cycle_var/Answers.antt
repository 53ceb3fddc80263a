use Rattle.order_encoding.proofs.Grid.{cycle_is, no_cycle}
use Rattle.order_encoding.proofs.cycles.cycle_var.Goals as goal

pub returns-then-cycle-cycles : goal.returns-then-cycle-cycles
returns-then-cycle-cycles c = cycle_is c.args.first c.args.cycles c.args.cycle c.if-cycle-cycles.true

pub returns-else-cycle-cycles : goal.returns-else-cycle-cycles
returns-else-cycle-cycles c = no_cycle c.args.first c.args.cycles c.args.cycle c.if-cycle-cycles.false
