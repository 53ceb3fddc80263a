use Rattle.std.proofs.Common.{arith}
use Rattle.sat_core.proofs.Offering.{offers-freed}
use Rattle.sat_core.proofs.decision.Decider.offer_all.Goals as goal

pub returns-clause-offers : goal.returns-clause-offers
returns-clause-offers c = λ old new h f.
    let end = c.loop-index-test.false in
    let i = c.loop-index.invariant in
    offers-freed c.args.steps.now c.args.from old new c.loop-index.self (i.offers old h) f
    (λ k s from few. i.those old h k s from (omega arith))
