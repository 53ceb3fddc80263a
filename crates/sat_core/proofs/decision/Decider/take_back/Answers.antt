use Rattle.std.proofs.Common.{List}
use Rattle.sat_core.specs.Steps.{var_count}
use Rattle.sat_core.specs.Picks.{AreFreed}
use Rattle.sat_core.specs.declared.trail.Step.{Step}
use Rattle.std.proofs.Common.{subst, sym}
use Rattle.sat_core.proofs.Offering.{freed}
use Rattle.sat_core.proofs.decision.Decider.take_back.Goals as goal

pub returns-clause-offers : goal.returns-clause-offers
returns-clause-offers c = λ clauses state.
    let old = c.args.trail.now in
    let new = c.backtrack.new.self in
    let n = var_count old in
    let f = freed clauses n c.args.count old.steps.items new.steps.items old.values.items new.values.items old.indices.items new.indices.items old.decisions.items new.decisions.items
    state (c.backtrack.ensures.state clauses state) c.backtrack.ensures.steps in
    c.offer_all.ensures.offers old.values.items new.values.items c.requires.offers
    (subst (λ (ss : List Step). AreFreed ss c.args.count old.values.items new.values.items) (sym c.deref.ensures.value) f)
