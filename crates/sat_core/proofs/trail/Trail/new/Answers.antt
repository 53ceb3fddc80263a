use Rattle.std.proofs.Common.{rules}
use Rattle.sat_core.proofs.States.{steps-none}
use Rattle.sat_core.proofs.trail.Trail.new.Goals as goal

pub returns-clause-state : goal.returns-clause-state
returns-clause-state c = λ clauses.
    steps-none clauses c.args.vars c.new.result.items c.in_ok-values.values.items c.in_ok-indices.indices.items c.new-2.result.items c.new.ensures.items
    (c.in_ok-values.ensures.items_if_clones_equal (λ y e. search rules)) (search rules) c.new-2.ensures.items
