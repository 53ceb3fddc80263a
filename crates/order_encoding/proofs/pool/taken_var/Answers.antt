use Rattle.std.proofs.Common.{arith}
use Rattle.order_encoding.proofs.TakenPlaces.{no_taken_slot, no_taken_cycle, taken_is, taken_within}
use Rattle.order_encoding.proofs.pool.taken_var.Goals as goal

pub returns-then-slot-len : goal.returns-then-slot-len
returns-then-slot-len c = no_taken_slot c.args.taken.now.table.now c.args.taken.now.k c.args.taken.now.first c.args.slot c.args.cycle (omega (arith, c.len.ensures, c.if-slot-len.true))

pub returns-then-cycle-taken : goal.returns-then-cycle-taken
returns-then-cycle-taken c = no_taken_cycle c.args.taken.now.table.now c.args.taken.now.k c.args.taken.now.first c.args.slot c.args.cycle c.if-cycle-taken.true

pub overflow_mul-result : goal.overflow_mul-result
overflow_mul-result c = (let w = taken_within c.args.taken.now.table.now c.args.taken.now.k c.args.taken.now.first c.args.slot c.args.cycle (omega (arith, c.len.ensures, c.if-slot-len.false)) c.if-cycle-taken.false in let few = c.requires in omega arith)

pub overflow_add-result : goal.overflow_add-result
overflow_add-result c = (let w = taken_within c.args.taken.now.table.now c.args.taken.now.k c.args.taken.now.first c.args.slot c.args.cycle (omega (arith, c.len.ensures, c.if-slot-len.false)) c.if-cycle-taken.false in let few = c.requires in omega arith)

pub overflow_add-result-2 : goal.overflow_add-result-2
overflow_add-result-2 c = (let w = taken_within c.args.taken.now.table.now c.args.taken.now.k c.args.taken.now.first c.args.slot c.args.cycle (omega (arith, c.len.ensures, c.if-slot-len.false)) c.if-cycle-taken.false in let few = c.requires in omega arith)

pub overflow_add-result-3 : goal.overflow_add-result-3
overflow_add-result-3 c = (let w = taken_within c.args.taken.now.table.now c.args.taken.now.k c.args.taken.now.first c.args.slot c.args.cycle (omega (arith, c.len.ensures, c.if-slot-len.false)) c.if-cycle-taken.false in let few = c.requires in omega arith)

pub returns : goal.returns
returns c = taken_is c.args.taken.now.table.now c.args.taken.now.k c.args.taken.now.first c.args.slot c.args.cycle (omega (arith, c.len.ensures, c.if-slot-len.false)) c.if-cycle-taken.false
