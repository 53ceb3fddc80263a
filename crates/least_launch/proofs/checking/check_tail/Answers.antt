use Rattle.std.proofs.Common.{◌∙◌, ap, subst, sym, arith}
use Rattle.cycle_encoding.specs.Encodings.{IsScope}
use Rattle.cycle_encoding.proofs.Built.{if_ok}
use Rattle.denali_run.specs.Encodings.{encoding_for}
use Rattle.denali_run.proofs.RisingCycles.{own_scope}
use Rattle.graph_meaning.specs.declared.graphs.LaunchGraph.{LaunchGraph}
use Rattle.schedule_meaning.specs.declared.schedules.Allocation.{Allocation}
use Rattle.least_launch.specs.TailVerdicts.{SaysTrue, miscounted, no_launches}
use Rattle.least_launch.specs.declared.verdicts.TailVerdict.TheVariants as verdicts
use Rattle.least_launch.proofs.Allocated.{kept_so, scope_for}
use Rattle.least_launch.proofs.Checked.{by_clauses_for, none_says_true}
use Rattle.least_launch.proofs.checking.check_tail.Goals as goal

pub returns-then-count-launches-clause-outcome : goal.returns-then-count-launches-clause-outcome
returns-then-count-launches-clause-outcome c =
    miscounted (λ e. c.if-count-launches.true (e ∙ sym c.launches_of-launches.ensures))
    (ap verdicts.Count c.launches_of-launches.ensures)

pub returns-then-count-eq0-clause-outcome : goal.returns-then-count-eq0-clause-outcome
returns-then-count-eq0-clause-outcome c =
    no_launches (c.if-count-launches.false ∙ c.launches_of-launches.ensures) c.if-count-eq0.true c.holds.ensures

pub returns-then-count-eq0-clause-sound : goal.returns-then-count-eq0-clause-sound
returns-then-count-eq0-clause-sound c =
    none_says_true c.args.graph.now c.args.table.now c.args.allocation c.args.k c.args.tail.now c.holds.result
    (sym (c.if-count-launches.false ∙ c.launches_of-launches.ensures) ∙ c.if-count-eq0.true) c.holds.ensures

pub check_clauses-requires-clause-scope : goal.check_clauses-requires-clause-scope
check_clauses-requires-clause-scope c =
    own_scope c.encoding_for.result c.in_ok-facts.facts c.args.table.now c.in_ok-scope.scope c.in_ok-scope.ensures

pub check_clauses-requires-clause-said : goal.check_clauses-requires-clause-said
check_clauses-requires-clause-said c =
    let same = c.if-count-launches.false ∙ c.launches_of-launches.ensures in
    let some = c.if-count-eq0.false in
    omega (arith, same, some)

pub returns-clause-outcome : goal.returns-clause-outcome
returns-clause-outcome c =
    let g = c.args.graph.now in
    let table = c.args.table.now in
    let same = c.if-count-launches.false ∙ c.launches_of-launches.ensures in
    let some = c.if-count-eq0.false in
    let scope = subst
    (λ (x : LaunchGraph). IsScope (encoding_for c.args.allocation) x c.args.table.now c.in_ok-scope.scope)
    c.in_ok-facts.ensures
    (scope_for c.args.allocation c.encoding_for.result c.in_ok-facts.facts table c.in_ok-scope.scope
    c.encoding_for.ensures c.in_ok-scope.ensures) in
    if_ok _ _ c.check_clauses.result
    (λ v by. by_clauses_for g c.in_ok-facts.facts table c.args.allocation c.args.k c.args.count c.in_ok-scope.scope
    scope c.requires.cycles
    c.args.tail.now v same (omega (arith, some)) c.in_ok-facts.ensures by)
    c.check_clauses.ensures.outcome

pub returns-clause-sound : goal.returns-clause-sound
returns-clause-sound c =
    let table = c.args.table.now in
    let kept = kept_so c.args.allocation c.encoding_for.result c.in_ok-facts.facts table c.in_ok-scope.scope
    c.encoding_for.ensures c.in_ok-scope.ensures in
    if_ok _ _ c.check_clauses.result
    (λ v says. subst (λ (x : LaunchGraph). SaysTrue x c.args.table.now c.args.allocation c.args.k v)
    c.in_ok-facts.ensures
    (subst (λ (a : Allocation). SaysTrue c.in_ok-facts.facts c.args.table.now a c.args.k v) kept says))
    c.check_clauses.ensures.sound
