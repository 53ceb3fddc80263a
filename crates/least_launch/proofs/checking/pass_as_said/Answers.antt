use Rattle.least_launch.proofs.Checked.{none_passes, other_clauses, other_vars, same_counts}
use Rattle.least_launch.proofs.checking.pass_as_said.Goals as goal

pub returns-then-not-pass_limit : goal.returns-then-not-pass_limit
returns-then-not-pass_limit c = λ f ev ec.
    none_passes c.args.sizes f ev ec c.pass_limit.result c.args.vars c.args.clauses c.pass_limit.ensures.value
    c.if-not-pass_limit.true

pub returns-then-sizes-vars : goal.returns-then-sizes-vars
returns-then-sizes-vars c = λ f ev ec. other_vars c.args.sizes f ev ec c.args.vars c.args.clauses c.if-sizes-vars.true

pub returns-then-sizes-clauses : goal.returns-then-sizes-clauses
returns-then-sizes-clauses c = λ f ev ec.
    other_clauses c.args.sizes f ev ec c.args.vars c.args.clauses c.if-sizes-clauses.true

pub returns : goal.returns
returns c = λ f ev ec.
    same_counts c.args.sizes f ev ec c.pass_limit.result c.args.vars c.args.clauses c.pass_limit.ensures.value
    c.if-not-pass_limit.false c.if-sizes-vars.false c.if-sizes-clauses.false
