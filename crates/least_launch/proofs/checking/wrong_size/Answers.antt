use Rattle.least_launch.specs.FewerLaunches.{fewer_in}
use Rattle.least_launch.proofs.Checked.{right_size, wrong_counts}
use Rattle.least_launch.proofs.checking.wrong_size.Goals as goal

pub returns-then-are_right : goal.returns-then-are_right
returns-then-are_right c =
    let f = fewer_in c.args.scope.now c.args.facts.now c.args.table.now c.args.k c.args.n in
    right_size f c.args.tail.now c.are_right.result
    (c.are_right.ensures f c.in_ok-sizes.ensures.vars c.in_ok-sizes.ensures.clauses) c.if-are_right.true

pub returns-else-are_right : goal.returns-else-are_right
returns-else-are_right c =
    let f = fewer_in c.args.scope.now c.args.facts.now c.args.table.now c.args.k c.args.n in
    wrong_counts f c.args.tail.now c.in_ok-sizes.sizes c.are_right.result
    (c.are_right.ensures f c.in_ok-sizes.ensures.vars c.in_ok-sizes.ensures.clauses) c.if-are_right.false
    c.in_ok-sizes.ensures.vars c.in_ok-sizes.ensures.clauses
