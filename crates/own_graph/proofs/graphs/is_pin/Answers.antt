use Rattle.std.proofs.Common.{◌≡◌, Some, sym, ◌∙◌}
use Rattle.own_graph.proofs.Registers.{pin_here, pin_is}
use Rattle.own_graph.proofs.graphs.is_pin.Goals as goal

pub returns-then-eq : goal.returns-then-eq
returns-then-eq c =
    let e : c.set-item.result.pin ≡ Some c.args.register = pin_is c.set-item.result.pin c.args.register (sym c.eq.ensures ∙ c.if-eq.true) in
    sym (pin_here c.args.sets.now c.args.register c.loop-set.set-index c.set-item.result c.loop-set-test.true c.set-item.is e)
