use Rattle.std.proofs.Common.{arith}
use Rattle.goal_reader.proofs.Ranks.{order_same, order_next}
use Rattle.goal_reader.proofs.order.Order.after.Goals as goal

pub returns-then-at-self : goal.returns-then-at-self
returns-then-at-self c = λ keywords before form h e. order_same keywords before form c.args.self c.args.at h e c.if-at-self.true

pub returns : goal.returns
returns c = λ keywords before form h e.
    let ne = c.if-at-self.false in
    let l = c.requires.later in
    order_next keywords before form c.args.self c.args.at h e (omega (arith, ne, l))
