use Rattle.std.proofs.Common.{◌+◌, arith}
use Rattle.order_encoding.proofs.HeldPlaces.{no_held_cycle}
use Rattle.order_encoding.proofs.held_memory.held_after.Goals as goal

pub returns-then-cycle-held : goal.returns-then-cycle-held
returns-then-cycle-held c = no_held_cycle c.args.facts.now c.args.held.now.cycles c.args.held.now.first c.args.class (c.args.cycle + 1) (omega (arith, c.if-cycle-held.true))
