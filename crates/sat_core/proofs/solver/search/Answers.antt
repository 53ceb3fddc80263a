use Rattle.std.proofs.Common.{◌≡◌, ℕ, Bool, List, Option, [], ◌∷◌, ◌++◌, arith, sym, ◌∙◌, subst}
use Rattle.std.specs.Prelude.{MatchBool, MatchOption, slice_index}
use Rattle.cnf_core.specs.Values.{IsClosed}
use Rattle.sat_core.specs.declared.trail.Trail.{Trail}
use Rattle.sat_core.specs.Steps.{assignment_of, var_count, AreClosedBefore}
use Rattle.sat_core.specs.FalseClauses.{IsFalsified}
use Rattle.sat_core.specs.Picks.{IsDecidedBy, free_list, decision_of}
use Rattle.sat_core.specs.declared.trail.Step.{Step}
use Rattle.sat_core.specs.Watches.{AreWatched}
use Rattle.sat_core.proofs.Watching.{kept-push}
use Rattle.sat_core.proofs.States.{propagated-closed}
use Rattle.sat_core.proofs.Offering.{offers-propagated, state-own}
use Rattle.sat_core.proofs.Advancing.{advanced}
use Rattle.sat_core.proofs.solver.search.Goals as goal

pub returns-in-Some-clause-before : goal.returns-in-Some-clause-before
returns-in-Some-clause-before c = propagated-closed c.args.clauses.now c.loop-id.trail.steps.items c.propagate.new.trail.steps.items c.loop-id.invariant.before c.in_ok-id.ensures.adds

pub returns-then-not-branch-clause-before : goal.returns-then-not-branch-clause-before
returns-then-not-branch-clause-before c =
    let mid = c.propagate.new.trail in
    let decided = subst (λ (b : Bool). MatchBool b (IsDecidedBy c.loop-id.decider.pick c.loop-id.decider.scores.items mid c.decide.new.trail) ((free_list mid.values.items ≡ []) × (c.decide.new.trail ≡ mid))) c.if-not-branch.true c.in_ok-decide.ensures.decided in
    subst (λ (t : Trail). AreClosedBefore c.args.clauses.now t.steps.items) (sym decided.1)
    (propagated-closed c.args.clauses.now c.loop-id.trail.steps.items mid.steps.items c.loop-id.invariant.before c.in_ok-id.ensures.adds)

pub returns-then-not-branch-clause-done : goal.returns-then-not-branch-clause-done
returns-then-not-branch-clause-done c =
    let mid = c.propagate.new.trail in
    let clauses = c.args.clauses.now in
    let decided = subst (λ (b : Bool). MatchBool b (IsDecidedBy c.loop-id.decider.pick c.loop-id.decider.scores.items mid c.decide.new.trail) ((free_list mid.values.items ≡ []) × (c.decide.new.trail ≡ mid))) c.if-not-branch.true c.in_ok-decide.ensures.decided in
    let closed = subst (λ (o : Option ℕ). MatchOption o (IsClosed (assignment_of mid.values.items) clauses) (IsFalsified (assignment_of mid.values.items) clauses)) c.in_default.is c.in_ok-id.ensures.done in
    subst (λ (t : Trail). IsClosed (assignment_of t.values.items) clauses × (free_list t.values.items ≡ [])) (sym decided.1) (closed, decided.0)

pub propagate-requires-clause-watched : goal.propagate-requires-clause-watched
propagate-requires-clause-watched c =
    subst (λ (n : ℕ). AreWatched c.args.clauses.now n c.loop-id.trail.steps.items c.loop-id.watches) (sym c.loop-id.invariant.size) c.loop-id.invariant.watched

pub returns-in-Some-clause-watched : goal.returns-in-Some-clause-watched
returns-in-Some-clause-watched c =
    subst (λ (n : ℕ). AreWatched c.args.clauses.now n c.propagate.new.trail.steps.items c.propagate.new.watches) c.loop-id.invariant.size c.in_ok-id.ensures.watched

pub returns-then-not-branch-clause-watched : goal.returns-then-not-branch-clause-watched
returns-then-not-branch-clause-watched c =
    let mid = c.propagate.new.trail in
    let decided = subst (λ (b : Bool). MatchBool b (IsDecidedBy c.loop-id.decider.pick c.loop-id.decider.scores.items mid c.decide.new.trail) ((free_list mid.values.items ≡ []) × (c.decide.new.trail ≡ mid))) c.if-not-branch.true c.in_ok-decide.ensures.decided in
    subst (λ (t : Trail). AreWatched c.args.clauses.now (var_count c.args.trail.now) t.steps.items c.propagate.new.watches) (sym decided.1)
    (subst (λ (n : ℕ). AreWatched c.args.clauses.now n mid.steps.items c.propagate.new.watches) c.loop-id.invariant.size c.in_ok-id.ensures.watched)

pub loop-id-preserved : goal.loop-id-preserved
loop-id-preserved c =
    let mid = c.propagate.new.trail in
    let clauses = c.args.clauses.now in
    let h = c.loop-id.invariant in
    let d = subst (λ (b : Bool). MatchBool b (IsDecidedBy c.loop-id.decider.pick c.loop-id.decider.scores.items mid c.decide.new.trail) ((free_list mid.values.items ≡ []) × (c.decide.new.trail ≡ mid))) c.if-not-branch.false c.in_ok-decide.ensures.decided in
    let closed = subst (λ (o : Option ℕ). MatchOption o (IsClosed (assignment_of mid.values.items) clauses) (IsFalsified (assignment_of mid.values.items) clauses)) c.in_default.is c.in_ok-id.ensures.done in
    let a = advanced clauses (var_count c.args.trail.now) c.loop-id.trail mid c.decide.new.trail (decision_of (slice_index (free_list mid.values.items) d.place) d.positive) c.requires.exist h.size h.before c.in_ok-id.ensures.state c.in_ok-id.ensures.adds closed d.steps d.state in
    let w = c.propagate.new.watches in
    let step : Step = decision_of (slice_index (free_list mid.values.items) d.place) d.positive in
    let visited = c.in_ok-id.ensures.visited c.in_default.is in
    record {
      state = a.state;
      before = a.before;
      size = a.size;
      watched = subst (λ (ss : List Step). AreWatched clauses (var_count c.args.trail.now) ss w) (sym d.steps)
          (subst (λ (n : ℕ). AreWatched clauses n (mid.steps.items ++ step ∷ []) w) h.size
          (kept-push clauses (var_count c.loop-id.trail) mid.steps.items w.lists.items w.pairs.items w.qhead step (λ none. visited.qhead) c.in_ok-id.ensures.watched));
      offers = c.in_ok-decide.ensures.offers clauses (state-own clauses (var_count c.loop-id.trail) mid c.in_ok-id.ensures.state);
      pick = c.in_ok-decide.ensures.pick ∙ h.pick;
      scores = c.in_ok-decide.ensures.scores ∙ h.scores;
    }

pub loop-id-smaller : goal.loop-id-smaller
loop-id-smaller c =
    let mid = c.propagate.new.trail in
    let clauses = c.args.clauses.now in
    let h = c.loop-id.invariant in
    let d = subst (λ (b : Bool). MatchBool b (IsDecidedBy c.loop-id.decider.pick c.loop-id.decider.scores.items mid c.decide.new.trail) ((free_list mid.values.items ≡ []) × (c.decide.new.trail ≡ mid))) c.if-not-branch.false c.in_ok-decide.ensures.decided in
    let closed = subst (λ (o : Option ℕ). MatchOption o (IsClosed (assignment_of mid.values.items) clauses) (IsFalsified (assignment_of mid.values.items) clauses)) c.in_default.is c.in_ok-id.ensures.done in
    let a = advanced clauses (var_count c.args.trail.now) c.loop-id.trail mid c.decide.new.trail (decision_of (slice_index (free_list mid.values.items) d.place) d.positive) c.requires.exist h.size h.before c.in_ok-id.ensures.state c.in_ok-id.ensures.adds closed d.steps d.state in
    let size = h.size in
    let size' = a.size in
    let grown = a.grown in
    let room = a.room in
    omega arith

pub decide-requires-clause-offers : goal.decide-requires-clause-offers
decide-requires-clause-offers c =
    let h = c.loop-id.invariant in
    offers-propagated c.args.clauses.now (var_count c.args.trail.now) (var_count c.loop-id.trail) c.loop-id.trail c.propagate.new.trail c.loop-id.decider h.state h.size c.in_ok-id.ensures.state c.in_ok-id.ensures.adds h.offers

pub returns-in-Some-clause-offers : goal.returns-in-Some-clause-offers
returns-in-Some-clause-offers c =
    let h = c.loop-id.invariant in
    offers-propagated c.args.clauses.now (var_count c.args.trail.now) (var_count c.loop-id.trail) c.loop-id.trail c.propagate.new.trail c.loop-id.decider h.state h.size c.in_ok-id.ensures.state c.in_ok-id.ensures.adds h.offers

pub returns-then-not-branch-clause-offers : goal.returns-then-not-branch-clause-offers
returns-then-not-branch-clause-offers c =
    c.in_ok-decide.ensures.offers c.args.clauses.now (state-own c.args.clauses.now (var_count c.loop-id.trail) c.propagate.new.trail c.in_ok-id.ensures.state)
