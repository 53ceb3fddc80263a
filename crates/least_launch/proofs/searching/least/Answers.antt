use Rattle.std.proofs.Common.{subst, sym}
use Rattle.graph_meaning.specs.declared.graphs.LaunchGraph.{LaunchGraph}
use Rattle.schedule_meaning.specs.Fits.{Fits}
use Rattle.schedule_meaning.specs.declared.schedules.Allocation.{Allocation}
use Rattle.least_launch.specs.Steps.{IsStepsEnd}
use Rattle.least_launch.proofs.Allocated.{kept_so, scope_by_own}
use Rattle.least_launch.proofs.searching.least.Goals as goal

pub lessen-requires-clause-scope : goal.lessen-requires-clause-scope
lessen-requires-clause-scope c =
    scope_by_own c.args.allocation c.encoding_for.result c.in_ok-facts.facts c.args.table.now c.in_ok-scope.scope
    c.encoding_for.ensures c.in_ok-scope.ensures

pub lessen-requires-clause-fits : goal.lessen-requires-clause-fits
lessen-requires-clause-fits c =
    let kept = kept_so c.args.allocation c.encoding_for.result c.in_ok-facts.facts c.args.table.now c.in_ok-scope.scope
    c.encoding_for.ensures c.in_ok-scope.ensures in
    subst (λ (a : Allocation). Fits c.in_ok-facts.facts c.args.table.now a c.args.k c.args.schedule.launches) (sym kept)
    (subst (λ (x : LaunchGraph). Fits x c.args.table.now c.args.allocation c.args.k c.args.schedule.launches)
    (sym c.in_ok-facts.ensures) c.requires.fits)

pub assign-requires-clause-fits : goal.assign-requires-clause-fits
assign-requires-clause-fits c =
    let kept = kept_so c.args.allocation c.encoding_for.result c.in_ok-facts.facts c.args.table.now c.in_ok-scope.scope
    c.encoding_for.ensures c.in_ok-scope.ensures in
    let end = subst (λ (a : Allocation). IsStepsEnd c.in_ok-facts.facts c.args.table.now a c.args.k c.args.conflicts
    c.args.schedule.launches c.in_ok-schedule.schedule c.in_ok-schedule.proof) kept c.in_ok-schedule.ensures in
    (subst (λ (x : LaunchGraph). IsStepsEnd x c.args.table.now c.args.allocation c.args.k c.args.conflicts
    c.args.schedule.launches c.in_ok-schedule.schedule c.in_ok-schedule.proof) c.in_ok-facts.ensures end).fits

pub returns-clause-fewest : goal.returns-clause-fewest
returns-clause-fewest c =
    let kept = kept_so c.args.allocation c.encoding_for.result c.in_ok-facts.facts c.args.table.now c.in_ok-scope.scope
    c.encoding_for.ensures c.in_ok-scope.ensures in
    let by_facts = subst (λ (a : Allocation). IsStepsEnd c.in_ok-facts.facts c.args.table.now a c.args.k
    c.args.conflicts c.args.schedule.launches c.in_ok-schedule.schedule c.in_ok-schedule.proof) kept
    c.in_ok-schedule.ensures in
    let end = subst (λ (x : LaunchGraph). IsStepsEnd x c.args.table.now c.args.allocation c.args.k c.args.conflicts
    c.args.schedule.launches c.in_ok-schedule.schedule c.in_ok-schedule.proof) c.in_ok-facts.ensures by_facts in
    record { fits = end.fits; no_more = end.no_more; listing = c.in_ok-listing.ensures.listing; proof = end.proof_is }
