use Rattle.std.proofs.Common.{ℕ, sym, ◌∙◌, subst}
use Rattle.sat_core.specs.Steps.{var_count, IsTrailState}
use Rattle.sat_core.specs.Watches.{AreWatched}
use Rattle.sat_core.proofs.States.{propagated-closed}
use Rattle.sat_core.proofs.Watching.{kept-propagated, propagates-trans}
use Rattle.sat_core.proofs.propagation.attach_new.Goals as goal

pub returns-in-Some-clause-watched : goal.returns-in-Some-clause-watched
returns-in-Some-clause-watched c =
    let w = c.loop-trail.watches in
    kept-propagated c.args.clauses.now (var_count c.args.trail.now) c.loop-trail.trail.steps.items c.assert_unit.new.trail.steps.items w.lists.items w.pairs.items w.qhead c.in_ok-id.ensures.adds c.loop-trail.invariant.watched

pub attach-requires-clause-before : goal.attach-requires-clause-before
attach-requires-clause-before c = propagated-closed c.args.clauses.now c.loop-trail.trail.steps.items c.assert_unit.new.trail.steps.items c.loop-trail.invariant.before c.in_ok-id.ensures.adds

pub attach-requires-clause-watched : goal.attach-requires-clause-watched
attach-requires-clause-watched c =
    let w = c.loop-trail.watches in
    let size = c.in_ok-id.ensures.state.size ∙ c.loop-trail.invariant.size in
    subst (λ (n : ℕ). AreWatched c.args.clauses.now n c.assert_unit.new.trail.steps.items w) (sym size)
    (kept-propagated c.args.clauses.now (var_count c.args.trail.now) c.loop-trail.trail.steps.items c.assert_unit.new.trail.steps.items w.lists.items w.pairs.items w.qhead c.in_ok-id.ensures.adds c.loop-trail.invariant.watched)

pub loop-trail-preserved : goal.loop-trail-preserved
loop-trail-preserved c =
    let h = c.loop-trail.invariant in
    let new = c.assert_unit.new.trail in
    let size = c.in_ok-id.ensures.state.size ∙ h.size in
    record {
      state = subst (λ (n : ℕ). IsTrailState c.args.clauses.now n new) h.size c.in_ok-id.ensures.state;
      adds = propagates-trans c.args.trail.now.steps.items c.loop-trail.trail.steps.items new.steps.items h.adds c.in_ok-id.ensures.adds;
      size = size;
      before = propagated-closed c.args.clauses.now c.loop-trail.trail.steps.items new.steps.items h.before c.in_ok-id.ensures.adds;
      watched = subst (λ (n : ℕ). AreWatched c.args.clauses.now n new.steps.items c.attach.new.watches) size c.in_ok-attach.ensures.watched;
    }
