use Rattle.std.proofs.Common.{map, sym, subst}
use Rattle.std.proofs.lemmas.Result.{err_from_is_err_and}
use Rattle.goal_meaning.specs.Views.{assume_view}
use Rattle.saturation.specs.OverLets.{CanAssume, AssumeFaultIs, IsAssumeMadeOver, none_assumed_over}
use Rattle.saturation.specs.GoalTerms.{assumed_pair}
use Rattle.saturation.proofs.StartSteps.{in_map, at_map, next_assume_can, one_more_assumed, refused_next}
use Rattle.saturation.proofs.first_graph.assume_all.Goals as goal

pub loop-assume-init : goal.loop-assume-init
loop-assume-init c = none_assumed_over

pub assume_equal-requires : goal.assume_equal-requires
assume_equal-requires c =
    let assumes = c.args.assumes.now in
    let x = c.assume-item.result in
    let k = c.loop-assume.assume-index in
    let can = next_assume_can c.args.lets.now c.args.graph c.loop-assume.graph (map assume_view assumes) k (assume_view x) (in_map assume_view assumes k x c.loop-assume-test.true c.assume-item.is) c.loop-assume.invariant c.requires.can in
    record { can = subst (CanAssume c.loop-assume.graph c.args.lets.now) (at_map assume_view assumes k x c.loop-assume-test.true c.assume-item.is) can }

pub loop-assume-preserved : goal.loop-assume-preserved
loop-assume-preserved c =
    let assumes = c.args.assumes.now in
    let x = c.assume-item.result in
    let k = c.loop-assume.assume-index in
    one_more_assumed c.args.lets.now c.args.graph c.loop-assume.graph (map assume_view assumes) k (assume_view x) (in_map assume_view assumes k x c.loop-assume-test.true c.assume-item.is) c.loop-assume.invariant c.in_ok-graph.graph
    (subst (λ a. IsAssumeMadeOver c.args.lets.now (assumed_pair a) c.loop-assume.graph c.in_ok-graph.graph) (sym (at_map assume_view assumes k x c.loop-assume-test.true c.assume-item.is)) c.in_ok-graph.ensures.assumed)

pub returns-in_err-graph-clause-fault : goal.returns-in_err-graph-clause-fault
returns-in_err-graph-clause-fault c =
    let assumes = c.args.assumes.now in
    let x = c.assume-item.result in
    let k = c.loop-assume.assume-index in
    let fault = c.in_err-graph.field-0.0 in
    let r = subst (λ a. AssumeFaultIs c.args.lets.now (assumed_pair a) c.loop-assume.graph fault) (sym (at_map assume_view assumes k x c.loop-assume-test.true c.assume-item.is)) c.in_err-graph.ensures.fault in
    let here = refused_next c.args.lets.now c.args.graph c.loop-assume.graph (map assume_view assumes) k (assume_view x) (in_map assume_view assumes k x c.loop-assume-test.true c.assume-item.is) c.loop-assume.invariant fault r in
    let p = err_from_is_err_and c.from_residual.result c.from_residual.ensures.1 in
    rw (p.1, p.2) here
