use Rattle.std.proofs.Common.{sym, rules}
use Rattle.egraph.proofs.Orders.{all_stay}
use Rattle.egraph.proofs.graph.without_dropped.Goals as goal

pub returns-then-not-dropped : goal.returns-then-not-dropped
returns-then-not-dropped g c = sym (all_stay c.args.rows.now c.args.order.items (c.requires (search rules)))
