use Rattle.std.proofs.Common.{ℕ, ◌<◌, None, length, refl, sym, ap, ◌∙◌, subst, arith}
use Rattle.cnf_core.specs.Formula.{IsLitOf}
use Rattle.sat_core.specs.declared.trail.Step.{Step}
use Rattle.sat_core.specs.Steps.{assignment_of, var_count, IsTrailState}
use Rattle.sat_core.specs.Watches.{list_of, watchers, AreWatched, IsFalsifiedAt, VisitSays}
use Rattle.sat_core.proofs.Watching.{list-within, propagates-trans, falsified-later, passed-start, kept-next}
use Rattle.sat_core.proofs.Visiting.{propagates-none, falsified-by, list-read}
use Rattle.sat_core.proofs.propagation.visit_list.Goals as goal

pub loop-place-init : goal.loop-place-init
loop-place-init c =
    let t = c.args.trail.now in
    let w = c.args.watches.now in
    let lit = c.negated-lit.result in
    let at = falsified-by t.steps.items w.qhead c.index.result.now lit c.requires.qhead c.index.ensures c.negated-lit.ensures in
    record {
      state = c.requires.state;
      adds = propagates-none t.steps.items;
      size = refl;
      watched = c.requires.watched;
      attached = refl;
      qhead = refl;
      at = at;
      passed = passed-start c.args.clauses.now (var_count t) t.steps.items w.lists.items w.pairs.items w.qhead lit c.requires.state.trail at c.requires.watched;
    }

pub loop-place-preserved-in-Stays : goal.loop-place-preserved-in-Stays
loop-place-preserved-in-Stays c =
    let h = c.loop-place.invariant in
    let e = c.in_ok-visit_watcher.ensures in
    let clauses = c.args.clauses.now in
    let old = c.loop-place.trail in
    let w = c.loop-place.watches in
    let new = c.visit_watcher.new.trail in
    let w' = c.visit_watcher.new.watches in
    let lit = c.negated-lit.result in
    let count = length (watchers w.lists.items (list_of lit)) in
    let says = subst (VisitSays clauses new.steps.items (assignment_of new.values.items) lit c.loop-place.place count w') c.in-Stays.is e.says in
    record {
      state = subst (λ (n : ℕ). IsTrailState clauses n new) h.size e.state;
      adds = propagates-trans c.args.trail.now.steps.items old.steps.items new.steps.items h.adds e.adds;
      size = e.state.size ∙ h.size;
      watched = subst (λ (n : ℕ). AreWatched clauses n new.steps.items w') h.size e.watched;
      attached = e.attached ∙ h.attached;
      qhead = e.qhead ∙ h.qhead;
      at = subst (λ (k : ℕ). IsFalsifiedAt new.steps.items k lit) (sym e.qhead) (falsified-later old.steps.items new.steps.items w.qhead lit e.adds h.at);
      passed = says.0;
    }

pub loop-place-preserved : goal.loop-place-preserved
loop-place-preserved c =
    let h = c.loop-place.invariant in
    let e = c.in_ok-visit_watcher.ensures in
    let clauses = c.args.clauses.now in
    let old = c.loop-place.trail in
    let w = c.loop-place.watches in
    let new = c.visit_watcher.new.trail in
    let w' = c.visit_watcher.new.watches in
    let lit = c.negated-lit.result in
    let count = length (watchers w.lists.items (list_of lit)) in
    let says = subst (VisitSays clauses new.steps.items (assignment_of new.values.items) lit c.loop-place.place count w') c.in-Moved.is e.says in
    record {
      state = subst (λ (n : ℕ). IsTrailState clauses n new) h.size e.state;
      adds = propagates-trans c.args.trail.now.steps.items old.steps.items new.steps.items h.adds e.adds;
      size = e.state.size ∙ h.size;
      watched = subst (λ (n : ℕ). AreWatched clauses n new.steps.items w') h.size e.watched;
      attached = e.attached ∙ h.attached;
      qhead = e.qhead ∙ h.qhead;
      at = subst (λ (k : ℕ). IsFalsifiedAt new.steps.items k lit) (sym e.qhead) (falsified-later old.steps.items new.steps.items w.qhead lit e.adds h.at);
      passed = says.0;
    }

pub returns-in-Falsified-clause-adds : goal.returns-in-Falsified-clause-adds
returns-in-Falsified-clause-adds c =
    propagates-trans c.args.trail.now.steps.items c.loop-place.trail.steps.items c.visit_watcher.new.trail.steps.items c.loop-place.invariant.adds c.in_ok-visit_watcher.ensures.adds

pub returns-clause-watched : goal.returns-clause-watched
returns-clause-watched c =
    let h = c.loop-place.invariant in
    let w = c.loop-place.watches in
    let lit = c.negated-lit.result in
    let d : Step = record { lit = lit; reason = None } in
    let t = c.args.trail.now in
    let qhead = c.args.watches.now.qhead in
    let at = falsified-by t.steps.items qhead c.index.result.now lit c.requires.qhead c.index.ensures c.negated-lit.ensures in
    let there = c.requires.state.exist qhead d c.requires.qhead in
    let exist : IsLitOf (var_count t) lit = subst (IsLitOf (var_count t)) (at.is d) (record { above = there.above; within = there.within }) in
    let inside = list-within (var_count t) (length w.lists.items) lit exist h.watched.count in
    let place = c.list_place-list.ensures in
    let few : c.list_place-list.result < length w.lists.items = omega arith in
    let is = list-read w.lists.items c.list_place-list.result c.index-in-loop-place.result.now lit few c.index-in-loop-place.ensures c.list_place-list.ensures in
    let size = ap length is in
    let end = c.loop-place-test.false in
    kept-next c.args.clauses.now (var_count c.args.trail.now) c.loop-place.trail.steps.items w.lists.items w.pairs.items w.qhead (list_of lit) c.loop-place.place h.at.within (omega arith) h.passed h.watched
