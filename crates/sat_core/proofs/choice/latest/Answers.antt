use Rattle.std.proofs.Common.{List, arith, subst}
use Rattle.std.proofs.lemmas.List.{take_all}
use Rattle.cnf_core.specs.declared.literal.Lit.{Lit}
use Rattle.sat_core.specs.Watches.{no_literal, IsLatest}
use Rattle.sat_core.proofs.Choosing.{latest-more, latest-none}
use Rattle.sat_core.proofs.choice.latest.Goals as goal

pub loop-lit-init : goal.loop-lit-init
loop-lit-init c = record { exists = tt; latest = λ clauses h. latest-none c.args.trail.now.steps.items c.args.clause.now c.args.but }

pub loop-lit-preserved : goal.loop-lit-preserved
loop-lit-preserved c =
    let steps = c.args.trail.now.steps.items in
    let clause = c.args.clause.now in
    record {
      exists = c.later_of-best.ensures.exist;
      latest = λ clauses h. latest-more steps clause c.loop-lit.lit-index no_literal c.args.but c.loop-lit.best c.later_of-best.result c.loop-lit-test.true (c.loop-lit.invariant.latest clauses h) (c.later_of-best.ensures.later clauses h);
    }

pub returns-clause-latest : goal.returns-clause-latest
returns-clause-latest c = λ clauses h.
    subst (λ (xs : List Lit). IsLatest c.args.trail.now.steps.items xs c.args.but c.loop-lit.best) (take_all c.loop-lit.lit-index c.args.clause.now (let t = c.loop-lit-test.false in omega arith)) (c.loop-lit.invariant.latest clauses h)
