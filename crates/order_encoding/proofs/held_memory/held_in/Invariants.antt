use Rattle.std.proofs.Common.{◌≡◌, ◌+◌, ◌==◌, length, take}
use Rattle.cycle_encoding.specs.Shapes.{numbered, vars_of}
use Rattle.order_encoding.specs.OrderSteps.{classes_held}
use Rattle.order_encoding.proofs.held_memory.held_in.Given as goal

abbrev pub invariant-loop-class : goal.invariant-loop-class
invariant-loop-class l = record {
  var : l.var ≡ l.held.first + length (classes_held (l.held.cycles + 1) (take l._class-index l.held.classes.items)) + l.cycle + 1;
  lits : l.lits.items ≡ vars_of (λ m. m.cycle == l.cycle) (numbered l.held.first (classes_held (l.held.cycles + 1) (take l._class-index l.held.classes.items)));
}
