use Rattle.std.proofs.Common.{refl, subst, sym, Option}
use Rattle.std.specs.Prelude.{IfSome}
use Rattle.cycle_encoding.proofs.Built.{if_ok}
use Rattle.schedule_meaning.specs.declared.schedules.Allocation.{Allocation}
use Rattle.least_launch.specs.LeastChecks.{IsTailJudged}
use Rattle.least_launch.specs.TailVerdicts.{FitsAsClaimed, HasFewLines}
use Rattle.least_launch.specs.declared.tails.Tail.{Tail}
use Rattle.least_launch.proofs.Judged.{claim_small, claimed_fits, graph_formed, not_scheduled, plain_judged, unsaid}
use Rattle.least_launch.proofs.checking.check_held.Goals as goal

pub returns-in-None : goal.returns-in-None
returns-in-None c = λ e kept verdict sound.
    plain_judged e c.args.table.now c.args.goal.now c.args.said.now _ verdict (λ h. sound)
    (λ h. unsaid c.args.goal.now.claim c.args.said.now c.in-None.is c.requires.said)

pub returns-in-None-graph : goal.returns-in-None-graph
returns-in-None-graph c = λ e kept verdict sound.
    plain_judged e c.args.table.now c.args.goal.now c.args.said.now _ verdict (λ h. sound)
    (λ h. not_scheduled c.requires.goal.0 c.args.goal.now c.requires.goal.1 c.in-None-graph.is)

pub check_claimed-requires-clause-graph : goal.check_claimed-requires-clause-graph
check_claimed-requires-clause-graph c =
    graph_formed c.requires.goal.0 c.args.goal.now c.in-Some-graph.graph c.requires.goal.1 c.in-Some-graph.is

pub check_claimed-requires-clause-few : goal.check_claimed-requires-clause-few
check_claimed-requires-clause-few c = subst (λ (o : Option Tail). IfSome o HasFewLines) c.in-Some.is c.requires.few

pub check_claimed-requires-clause-small : goal.check_claimed-requires-clause-small
check_claimed-requires-clause-small c =
    claim_small c.requires.goal.0 c.args.goal.now c.in-Some-graph.graph c.requires.goal.1 c.in-Some-graph.is

pub check_claimed-requires-clause-fits : goal.check_claimed-requires-clause-fits
check_claimed-requires-clause-fits c =
    subst (λ (a : Allocation). FitsAsClaimed c.in-Some-graph.graph c.args.table.now a c.args.goal.now.claim)
    c.requires.sound.1
    (claimed_fits c.requires.sound.0 c.args.table.now c.args.goal.now c.in-Some-graph.graph c.in-Some-graph.is
    c.requires.sound.2)

pub returns-in-Some-graph : goal.returns-in-Some-graph
returns-in-Some-graph c =
    if_ok _ _ c.check_claimed.result
    (λ v judged e kept verdict sound.
    subst (λ (o : Option Tail). IsTailJudged e c.args.table.now c.args.goal.now o v) (sym c.in-Some.is)
    (judged e c.args.goal.now kept c.in-Some-graph.is refl verdict sound))
    c.check_claimed.ensures
