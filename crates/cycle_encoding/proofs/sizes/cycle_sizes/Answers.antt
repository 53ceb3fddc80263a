use Rattle.std.proofs.Common.{arith}
use Rattle.cycle_encoding.proofs.DestinedTotals.{seen_is, overwritten_is}
use Rattle.cycle_encoding.proofs.sizes.cycle_sizes.Goals as goal

pub returns-clause-vars : goal.returns-clause-vars
returns-clause-vars c =
    let seen = seen_is c.args.frame.now.facts.now c.args.frame.now.table.now c.args.frame.now.k c.args.frame.now.scope.now c.shown_count.result c.cluster_count.result c.from.result c.shown_count.ensures.value c.cluster_count.ensures.value c.from.ensures in
    let over = overwritten_is c.args.frame.now.facts.now c.args.frame.now.table.now c.args.frame.now.k c.args.frame.now.scope.now c.overwriting_count.result c.from-2.result c.overwriting_count.ensures.value c.from-2.ensures in
    let launches = c.launch_count.ensures.value in
    let places = c.place_sizes-places.ensures.vars in
    omega arith

pub returns-clause-clauses : goal.returns-clause-clauses
returns-clause-clauses c =
    let seen = seen_is c.args.frame.now.facts.now c.args.frame.now.table.now c.args.frame.now.k c.args.frame.now.scope.now c.shown_count.result c.cluster_count.result c.from.result c.shown_count.ensures.value c.cluster_count.ensures.value c.from.ensures in
    let targets = c.target_count.ensures.value in
    let needs = c.needs_count-needs.ensures.value in
    let places = c.place_sizes-places.ensures.clauses in
    omega arith
