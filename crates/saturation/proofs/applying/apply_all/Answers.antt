use Rattle.std.proofs.Common.{map, sym, subst}
use Rattle.std.proofs.lemmas.Result.{err_from_is_err_and}
use Rattle.saturation.specs.Trace.{CanApply, AreAllApplied, finished}
use Rattle.saturation.specs.Instances.{asked_of, RefusalIs}
use Rattle.saturation.proofs.RoundSteps.{all_made_push, next_can, refusal_in, in_asked, at_asked, one_more_asked, all_asked_taken}
use Rattle.saturation.proofs.applying.apply_all.Goals as goal

pub loop-one-init : goal.loop-one-init
loop-one-init c = finished

pub apply-requires : goal.apply-requires
apply-requires c =
    let asked = c.args.asked.now in
    let x = c.one-item.result in
    let k = c.loop-one.one-index in
    let can = next_can c.args.graph c.loop-one.graph (map asked_of asked) k (asked_of x) c.requires.can c.loop-one.invariant (in_asked asked k x c.loop-one-test.true c.one-item.is) in
    record { can = subst (CanApply c.loop-one.graph) (at_asked asked k x c.loop-one-test.true c.one-item.is) can }

pub loop-one-preserved : goal.loop-one-preserved
loop-one-preserved c =
    let asked = c.args.asked.now in
    let x = c.one-item.result in
    let k = c.loop-one.one-index in
    subst (λ xs. AreAllApplied xs c.args.graph c.in_ok-graph.graph) (sym (one_more_asked asked k x c.loop-one-test.true c.one-item.is)) (all_made_push c.loop-one.invariant c.in_ok-graph.ensures.made)

pub returns-clause-made : goal.returns-clause-made
returns-clause-made c = subst (λ xs. AreAllApplied xs c.args.graph c.loop-one.graph) (all_asked_taken c.args.asked.now c.loop-one.one-index c.loop-one-test.false) c.loop-one.invariant

pub returns-in_err-graph-clause-fault : goal.returns-in_err-graph-clause-fault
returns-in_err-graph-clause-fault c =
    let asked = c.args.asked.now in
    let x = c.one-item.result in
    let k = c.loop-one.one-index in
    let fault = c.in_err-graph.field-0.0 in
    let at = at_asked asked k x c.loop-one-test.true c.one-item.is in
    let r = subst (λ a. RefusalIs a c.loop-one.graph fault) (sym at) c.in_err-graph.ensures.fault in
    let here = refusal_in (map asked_of asked) k (asked_of x) c.args.graph c.loop-one.graph fault (in_asked asked k x c.loop-one-test.true c.one-item.is) c.loop-one.invariant r in
    let p = err_from_is_err_and c.from_residual.result c.from_residual.ensures.1 in
    rw (p.1, p.2) here
