use Rattle.std.proofs.Common.{◌≡◌, ℕ, ◌+◌, ◌-◌, ◌≤◌, ◌⊎◌, [], ◌++◌, List, Bool, false, length, take, drop, refl, sym, ap, ◌∙◌, subst, arith}
use Rattle.std.specs.Prelude.{slice_set}
use Rattle.std.specs.List.{All, Contains}
use Rattle.std.proofs.lemmas.List.{take_at, length-set}
use Rattle.std.proofs.lemmas.Option.{get_or_from_slice_get}
use Rattle.cnf_core.specs.declared.literal.Lit.{Lit}
use Rattle.std.proofs.lemmas.List.Elements.{All-weaker}
use Rattle.cnf_core.specs.Formula.{IsLitOf}
use Rattle.cnf_core.specs.Refutation.{clause_at}
use Rattle.sat_core.specs.Walks.{MarksClause, IsStepOf, trail_index, last_level_count}
use Rattle.sat_core.proofs.Marking.{late-le}
use Rattle.sat_core.proofs.conflict.Analysis.resolve.Goals as goal

pub overflow_add-self : goal.overflow_add-self
overflow_add-self c =
    let last = c.args.self.now.last in
    let mid = c.mark_clause-added.new.seen in
    let count : last_level_count last mid ≡ last_level_count last c.args.self.now.seen.items + c.mark_clause-added.result =
    subst (λ (xs : List Bool). last_level_count last mid ≡ last_level_count last xs + c.mark_clause-added.result) c.as_mut_slice.ensures.value c.mark_clause-added.ensures.needs.count in
    let size : length mid ≡ length c.args.self.now.seen.items = c.mark_clause-added.ensures.needs.size ∙ ap length c.as_mut_slice.ensures.value in
    let few = late-le last mid in
    let at_last_level = c.requires.at_last_level in
    let ok = c.args.self.now.seen.ok in
    let small = c.args.self.now.seen.small in
    omega arith

pub returns : goal.returns
returns c =
    let old = c.args.self.now in
    let last = old.last in
    let mid = c.mark_clause-added.new.seen in
    let added = c.mark_clause-added.result in
    let is : clause_at c.args.clauses.now c.args.id ≡ c.get-clause.result.now = get_or_from_slice_get c.args.clauses.now (c.args.id - 1) c.get-clause.result.now [] c.get-clause.ensures in
    let needs = subst (λ (ps : List ℕ). MarksClause ps c.get-clause.result.now c.get-clause.result.now last old.seen.items mid added) c.deref.ensures.value
    (subst (λ (xs : List Bool). MarksClause c.deref.result.now c.get-clause.result.now c.get-clause.result.now last xs mid added) c.as_mut_slice.ensures.value c.mark_clause-added.ensures.needs) in
    let count = needs.count in
    let at_last_level = c.requires.at_last_level in
    let items = old.seen.items in
    let last-set = c.unmark-done.new.seen in
    let mid-size : length mid ≡ old.seen.len = needs.size ∙ sym old.seen.ok.0 in
    let mid-is : take old.seen.len (mid ++ drop (length mid) items) ≡ mid = take_at mid (drop (length mid) items) old.seen.len mid-size in
    let slice-is : c.as_mut_slice-2.result.now ≡ mid = c.as_mut_slice-2.ensures.value ∙ mid-is in
    let set-is : last-set ≡ slice_set mid c.args.index false = c.unmark-done.ensures.marks ∙ ap (λ (xs : List Bool). slice_set xs c.args.index false) slice-is in
    let set-size : length last-set ≡ old.seen.len = ap length set-is ∙ length-set mid c.args.index false ∙ mid-size in
    let set-there : take old.seen.len (last-set ++ drop (length last-set) (take old.seen.len (mid ++ drop (length mid) items))) ≡ last-set =
    take_at last-set (drop (length last-set) (take old.seen.len (mid ++ drop (length mid) items))) old.seen.len set-size in
    let done : last_level_count last mid ≡ last_level_count last c.unmark-done.new.seen + c.unmark-done.result =
    subst (λ (xs : List Bool). last_level_count last xs ≡ last_level_count last c.unmark-done.new.seen + c.unmark-done.result) slice-is c.unmark-done.ensures.count in
    record {
      mid = mid;
      added = added;
      needs = subst (λ (x : List Lit). MarksClause c.args.trail.now.indices.items x x last old.seen.items mid added) (sym is) needs;
      seen = set-there ∙ set-is;
      at_last_level = (let e : old.at_last_level + added - c.unmark-done.result ≡ last_level_count last c.unmark-done.new.seen = omega arith in e ∙ sym (ap (last_level_count last) set-there));
      lits = refl;
      hints = c.in_ok-push.ensures.items;
      last = refl;
      lower = c.lowest_index-self.ensures.most;
      lowest = subst (λ (x : List Lit). All (λ l. c.lowest_index-self.result ≤ trail_index c.args.trail.now.indices.items l) x) (sym is)
          (subst (λ (ps : List ℕ). All (λ l. c.lowest_index-self.result ≤ trail_index ps l) c.get-clause.result.now) c.deref-2.ensures.value c.lowest_index-self.ensures.each);
      reached = subst (λ (x : List Lit). (c.lowest_index-self.result ≡ old.lowest) ⊎ ((l : Lit) × Contains x l × (c.lowest_index-self.result ≡ trail_index c.args.trail.now.indices.items l))) (sym is)
          (subst (λ (ps : List ℕ). (c.lowest_index-self.result ≡ old.lowest) ⊎ ((l : Lit) × Contains c.get-clause.result.now l × (c.lowest_index-self.result ≡ trail_index ps l))) c.deref-2.ensures.value c.lowest_index-self.ensures.reached);
      backjump = refl;
    }

pub lowest_index-self-requires : goal.lowest_index-self-requires
lowest_index-self-requires c =
    let indices = c.args.trail.now.indices.items in
    let is : clause_at c.args.clauses.now c.args.id ≡ c.get-clause.result.now = get_or_from_slice_get c.args.clauses.now (c.args.id - 1) c.get-clause.result.now [] c.get-clause.ensures in
    let exist = All-weaker (IsStepOf indices (length c.args.self.now.seen.items)) (IsLitOf (length indices)) (λ l s. record { above = s.above; within = s.within }) (clause_at c.args.clauses.now c.args.id) c.requires.steps in
    record {
      exist = subst (λ (ps : List ℕ). All (IsLitOf (length ps)) c.get-clause.result.now) (sym c.deref-2.ensures.value) (subst (All (IsLitOf (length indices))) is exist);
    }
