use Rattle.std.proofs.Common.{ℕ, ◌∙◌, subst, arith}
use Rattle.sat_core.specs.Steps.{var_count, IsTrailState}
use Rattle.sat_core.specs.Watches.{AreWatched}
use Rattle.sat_core.proofs.Watching.{propagates-trans, kept-closed}
use Rattle.sat_core.proofs.Visiting.{closed-given}
use Rattle.sat_core.proofs.propagation.propagate.Goals as goal

pub returns-in-Some-2-clause-adds : goal.returns-in-Some-2-clause-adds
returns-in-Some-2-clause-adds c =
    propagates-trans c.args.trail.now.steps.items c.loop-watches.trail.steps.items c.visit_list.new.trail.steps.items c.loop-watches.invariant.adds c.in_ok-id-2.ensures.adds

pub loop-watches-preserved : goal.loop-watches-preserved
loop-watches-preserved c =
    let h = c.loop-watches.invariant in
    let e = c.in_ok-id-2.ensures in
    let clauses = c.args.clauses.now in
    let new = c.visit_list.new.trail in
    let w' = c.visit_list.new.watches in
    record {
      state = subst (λ (n : ℕ). IsTrailState clauses n new) h.size e.state;
      adds = propagates-trans c.args.trail.now.steps.items c.loop-watches.trail.steps.items new.steps.items h.adds e.adds;
      size = e.state.size ∙ h.size;
      watched = subst (λ (n : ℕ). AreWatched clauses n new.steps.items w') h.size e.watched;
      attached = e.attached ∙ h.attached;
    }

pub returns-clause-done : goal.returns-clause-done
returns-clause-done c =
    let h = c.loop-watches.invariant in
    let t = c.loop-watches.trail in
    let w = c.loop-watches.watches in
    let clauses = c.args.clauses.now in
    let n = var_count c.args.trail.now in
    let low = h.watched.within in
    let high = c.loop-watches-test.false in
    let count = c.len.ensures ∙ t.steps.ok.0 in
    closed-given clauses n t.steps.items t.values.items t.indices.items t.decisions.items h.state c.requires.exist
    (kept-closed clauses n t.steps.items w.lists.items w.pairs.items w.qhead h.watched h.attached (omega arith))
