use Rattle.std.proofs.Common.{◌≡◌, ℕ, Vec, Global, [], ◌∷◌, ◌++◌, List, Option, false, length, map, min, arith, rules, sym, ap, ◌∙◌, subst}
use Rattle.std.specs.Prelude.{MatchOption, unwrap_or, replicate}
use Rattle.std.proofs.lemmas.Bool.{false≢true}
use Rattle.std.proofs.lemmas.List.{length_push}
use Rattle.cnf_core.specs.declared.literal.Lit.{Lit}
use Rattle.cnf_core.specs.declared.line.Line.{Line}
use Rattle.cnf_core.specs.Values.{IsClosed}
use Rattle.sat_core.specs.declared.trail.Step.{Step}
use Rattle.sat_core.specs.declared.trail.Value.{Value}
use Rattle.sat_core.specs.Steps.{truth_value, assignment_of, var_count, IsTrailState}
use Rattle.sat_core.specs.Walks.{AreNoMarks}
use Rattle.sat_core.specs.Watches.{AreWatched, KeepWatches}
use Rattle.sat_core.proofs.Ending.{marks-none}
use Rattle.sat_core.proofs.Watching.{kept-backtrack, kept-more}
use Rattle.sat_core.specs.FalseClauses.{IsFalsified}
use Rattle.sat_core.specs.Notes.{AreNotes}
use Rattle.sat_core.specs.Picks.{free_list, AreScores}
use Rattle.sat_core.proofs.Scoring.{scores-none, scores-add}
use Rattle.sat_core.proofs.Searching.{IsSearch, search-none, search-moved, search-more, search-refuted, search-spent, search-solved}
use Rattle.sat_core.proofs.solver.solve_from.Goals as goal

pub loop-made-init : goal.loop-made-init
loop-made-init c =
    let f = c.args.cnf.now in
    let trail = c.in_ok-trail.trail in
    let clauses = c.in_ok-clauses.clauses in
    record {
      search = subst (λ (ls : List Line). IsSearch f ls clauses trail) (sym c.new-lines.ensures)
          (search-none f clauses trail c.in_ok-clauses.ensures.same c.vars.ensures.exist
          (λ cs. subst (λ (n : ℕ). IsTrailState cs n trail) c.vars.ensures.value (c.in_ok-trail.ensures.state cs)) c.in_ok-trail.ensures.none);
      watched =
          (let size = (c.in_ok-trail.ensures.state clauses).size in
          subst (λ (ss : List Step). AreWatched clauses (var_count trail) ss c.in_ok-watches.watches) (sym c.in_ok-trail.ensures.none)
          (subst (λ (n : ℕ). AreWatched clauses n [] c.in_ok-watches.watches) (c.vars-2.ensures.value ∙ sym c.vars.ensures.value ∙ sym size) (c.in_ok-watches.ensures clauses)));
      offers =
          (let size = (c.in_ok-trail.ensures.state clauses).size in
          c.in_ok-decider.ensures.offers trail.values.items (size ∙ c.vars.ensures.value ∙ sym c.requires.scores));
      pick = c.in_ok-decider.ensures.pick;
      scored = λ busy.
          (let size = (c.in_ok-trail.ensures.state clauses).size in
          subst (λ (ls : List Line). AreScores (var_count trail) c.args.scores.now ls c.in_ok-decider.decider.scores.items) (sym c.new-lines.ensures)
          (scores-none (var_count trail) c.args.scores.now c.in_ok-decider.decider.scores.items (c.in_ok-decider.ensures.busy busy) (c.requires.scores ∙ sym c.vars.ensures.value ∙ sym size)
          (λ k few. (c.type_inv.scores k).fits)));
      notes =
          (let size = (c.in_ok-trail.ensures.state clauses).size in
          subst (λ (n : ℕ). AreNotes n c.in_ok-notes.notes) (c.vars-3.ensures.value ∙ sym c.vars.ensures.value ∙ sym size) c.in_ok-notes.ensures.notes);
      unmarked =
          (let size = (c.in_ok-trail.ensures.state clauses).size in
          let all : c.in_ok-seen.seen.items ≡ replicate c.vars-4.result false = search rules in
          marks-none (var_count trail) c.in_ok-seen.seen.items (all ∙ ap (λ (k : ℕ). replicate k false) (c.vars-4.ensures.value ∙ sym c.vars.ensures.value ∙ sym size)));
      count = ap length c.new-lines.ensures;
    }

pub learn-requires-clause-unmarked : goal.learn-requires-clause-unmarked
learn-requires-clause-unmarked c =
    subst (λ (k : ℕ). AreNoMarks k c.loop-made.seen.items) (sym c.in_ok-search.ensures.state.size) c.loop-made.invariant.unmarked

pub learn-requires-clause-notes : goal.learn-requires-clause-notes
learn-requires-clause-notes c =
    subst (λ (k : ℕ). AreNotes k c.loop-made.notes) (sym c.in_ok-search.ensures.state.size) c.loop-made.invariant.notes

pub returns-in-None-clause-solved : goal.returns-in-None-clause-solved
returns-in-None-clause-solved c =
    let f = c.args.cnf.now in
    let h = c.loop-made.invariant.search in
    let clauses = c.loop-made.clauses in
    let values = c.search.new.trail.values.items in
    let done = subst (λ (o : Option ℕ). MatchOption o (IsClosed (assignment_of values) clauses × (free_list values ≡ [])) (IsFalsified (assignment_of values) clauses)) c.in-None.is c.in_ok-search.ensures.done in
    let size : length values ≡ f.vars = c.in_ok-search.ensures.state.size ∙ h.vars in
    search-solved f c.loop-made.lines clauses f.vars values c.in_ok-all_values-in-None.field-0 h.known' h.exist size done.0 done.1
    (c.in_ok-all_values-in-None.ensures ∙ ap (λ (vs : List Value). map (λ v. unwrap_or (truth_value v) false) vs) c.as_slice.ensures.value)

pub returns-then-refuted-clause-refuted : goal.returns-then-refuted-clause-refuted
returns-then-refuted-clause-refuted c =
    let f = c.args.cnf.now in
    let clauses = c.loop-made.clauses in
    let mid = c.search.new.trail in
    let h = search-moved f c.loop-made.lines clauses c.loop-made.trail mid c.loop-made.invariant.search c.in_ok-search.ensures.state c.in_ok-search.ensures.before in
    search-refuted f c.loop-made.lines c.push-in-Some.new.self clauses mid c.in_ok-line-in-Some.line c.loop-made.made c.args.conflicts c.refutations_leave_no_solution.ensures h c.in_ok-line-in-Some.ensures.shown
    (c.is_empty-refuted.ensures.0 c.if-refuted.true) c.in_ok-push-in-Some-2.ensures.ok c.loop-made.invariant.count c.loop-made-test.true

pub loop-made-preserved : goal.loop-made-preserved
loop-made-preserved c =
    let f = c.args.cnf.now in
    let clauses = c.loop-made.clauses in
    let mid = c.search.new.trail in
    let line = c.in_ok-line-in-Some.line in
    let h = search-moved f c.loop-made.lines clauses c.loop-made.trail mid c.loop-made.invariant.search c.in_ok-search.ensures.state c.in_ok-search.ensures.before in
    let is-lines = c.in_ok-push-in-Some-2.ensures.ok in
    let is-clauses = c.in_ok-push-in-Some.ensures.ok ∙ ap (λ (lits : List Lit). clauses ++ lits ∷ []) c.as_slice-in-Some.ensures in
    let long = ap length is-lines ∙ length_push c.loop-made.lines line in
    let count = c.loop-made.invariant.count in
    record {
      search = search-more f c.loop-made.lines c.push-in-Some.new.self clauses c.push.new.self mid c.learn.new.trail line h c.in_ok-line-in-Some.ensures.size c.in_ok-line-in-Some.ensures.shown
          (c.in_ok-line-in-Some.ensures.goes_on (λ empty. false≢true (sym c.if-refuted.false ∙ c.is_empty-refuted.ensures.1 empty))) is-clauses is-lines;
      watched =
          (let old = c.search.new.watches in
          let n = var_count c.loop-made.trail in
          let back = c.in_ok-line-in-Some.ensures.back in
          let steps = c.learn.new.trail.steps.items in
          let backtrack = kept-backtrack clauses n mid.steps.items steps old.lists.items old.pairs.items old.qhead back.count back.front back.decides c.in_ok-search.ensures.watched in
          let more = kept-more clauses (line.lits ∷ []) n steps old.lists.items old.pairs.items (min old.qhead (length steps)) backtrack in
          let size = c.in_ok-line-in-Some.ensures.size ∙ c.in_ok-search.ensures.state.size in
          let m = var_count c.learn.new.trail in
          subst (λ (k : ℕ). KeepWatches c.push.new.self m steps old.lists.items old.pairs.items k)
          (sym (c.min.ensures ∙ ap (λ (k : ℕ). min old.qhead k) (c.len.ensures ∙ c.learn.new.trail.steps.ok.0)))
          (subst (λ (cs : List (List Lit)). KeepWatches cs m steps old.lists.items old.pairs.items (min old.qhead (length steps))) (sym is-clauses)
          (subst (λ (k : ℕ). KeepWatches (clauses ++ line.lits ∷ []) k steps old.lists.items old.pairs.items (min old.qhead (length steps))) (sym size) more)));
      offers = c.in_ok-line-in-Some.ensures.offers;
      pick = c.in_ok-line-in-Some.ensures.pick ∙ c.in_ok-search.ensures.pick ∙ c.loop-made.invariant.pick;
      scored = λ busy.
          (let n = var_count c.loop-made.trail in
          let counts = c.search.new.decider.scores.items in
          let new = c.learn.new.decider.scores.items in
          let size = c.in_ok-line-in-Some.ensures.size ∙ c.in_ok-search.ensures.state.size in
          let given = c.args.scores.now in
          let o = c.in_ok-search.ensures.offers in
          let p = c.in_ok-line-in-Some.ensures.offers in
          let before = subst (λ (v : Vec ℕ Global). AreScores n given c.loop-made.lines v.items) (sym c.in_ok-search.ensures.scores) (c.loop-made.invariant.scored busy) in
          let wide : length counts ≡ var_count mid = o.scores in
          let each = c.in_ok-line-in-Some.ensures.busy (c.in_ok-search.ensures.pick ∙ c.loop-made.invariant.pick ∙ busy) in
          subst (λ (k : ℕ). AreScores k given c.push-in-Some.new.self new) (sym size)
          (subst (λ (ls : List Line). AreScores n given ls new) (sym is-lines)
          (scores-add n given c.loop-made.lines line counts new before (p.scores ∙ c.in_ok-line-in-Some.ensures.size ∙ sym wide) (λ x low high. each x low (omega arith)))));
      notes = subst (λ (k : ℕ). AreNotes k c.learn.new.notes) (sym c.in_ok-line-in-Some.ensures.size) c.in_ok-line-in-Some.ensures.notes;
      unmarked = subst (λ (k : ℕ). AreNoMarks k c.learn.new.seen.items) (sym c.in_ok-line-in-Some.ensures.size) c.in_ok-line-in-Some.ensures.unmarked;
      count = omega arith;
    }

pub returns-clause-spent : goal.returns-clause-spent
returns-clause-spent c =
    let count = c.loop-made.invariant.count in
    let all = c.loop-made-test.false in
    let end = c.loop-made.auto.made-end in
    search-spent c.args.cnf.now c.loop-made.lines c.loop-made.clauses c.loop-made.trail c.args.conflicts c.loop-made.invariant.search (omega arith) c.requires.conflicts.0
