use Rattle.std.proofs.Common.{◌≡◌, ◌+◌, length, take}
use Rattle.order_encoding.specs.OrderSteps.{classes_held}
use Rattle.order_encoding.proofs.memory.add_memory_vars.Given as goal

abbrev pub invariant-loop-class : goal.invariant-loop-class
invariant-loop-class l = l.cnf ≡ record l.initial.cnf { vars = l.initial.cnf.vars + length (classes_held (l.held.cycles + 1) (take l._class-index l.held.classes.items)) }
