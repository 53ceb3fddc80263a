use Rattle.std.proofs.Common.{◌≡◌, ℕ, ◌-◌, ◌≤◌, ◌⊎◌, [], ◌++◌, List, Bool, length, take, drop, refl, sym, ap, ◌∙◌, subst, arith}
use Rattle.std.specs.Prelude.{reverse}
use Rattle.std.specs.List.{All, Contains}
use Rattle.std.proofs.lemmas.List.{take_at}
use Rattle.std.proofs.lemmas.List.Elements.{All-weaker}
use Rattle.std.proofs.lemmas.Option.{get_or_from_slice_get}
use Rattle.cnf_core.specs.declared.literal.Lit.{Lit}
use Rattle.cnf_core.specs.Refutation.{clause_at}
use Rattle.sat_core.specs.Steps.{var_count}
use Rattle.sat_core.specs.Walks.{IsStepOf, MarksClause, AreNoMarks, IsWalked, LeadsToConflict, trail_index}
use Rattle.sat_core.specs.declared.conflict.Analysis.{Analysis}
use Rattle.std.specs.Vec.{with_items}
use Rattle.sat_core.proofs.States.{clause-exists, falsified-held}
use Rattle.sat_core.proofs.Ending.{false-steps, walked-start}
use Rattle.sat_core.proofs.conflict.start.Goals as goal

pub mark_clause-at_last_level-requires : goal.mark_clause-at_last_level-requires
mark_clause-at_last_level-requires c =
    let t = c.args.trail.now in
    let clauses = c.args.clauses.now in
    let n = var_count t in
    let is : clause_at clauses c.args.id ≡ c.get-clause.result.now = get_or_from_slice_get clauses (c.args.id - 1) c.get-clause.result.now [] c.get-clause.ensures in
    let f = c.requires.falsified in
    let steps = false-steps clauses n t.steps.items t.values.items t.indices.items t.decisions.items (clause_at clauses c.args.id) c.requires.state
    (clause-exists clauses n c.args.id c.requires.exist f.low f.high) (falsified-held clauses n t.steps.items t.values.items t.indices.items t.decisions.items c.args.id c.requires.state c.requires.exist f) in
    let size : length c.as_mut_slice.result.now ≡ n = ap length c.as_mut_slice.ensures.value ∙ c.requires.unmarked.size in
    let room = c.requires.state.room in
    let steps' = All-weaker (IsStepOf t.indices.items (length t.steps.items)) (IsStepOf t.indices.items (length c.as_mut_slice.result.now))
    (λ l at. (let before = at.before in record { above = at.above; within = at.within; before = omega arith })) (clause_at clauses c.args.id) steps in
    let steps'' = subst (λ (ps : List ℕ). All (IsStepOf ps (length c.as_mut_slice.result.now)) (clause_at clauses c.args.id)) (sym c.deref.ensures.value) steps' in
    record { steps = subst (λ (x : List Lit). All (IsStepOf c.deref.result.now (length c.as_mut_slice.result.now)) x) is steps'' }

abbrev analysis-of : goal.After-new-2 → Analysis
analysis-of c = record { seen = with_items c.args.seen c.mark_clause-at_last_level.new.seen; at_last_level = c.mark_clause-at_last_level.result; last = c.last_decision-last.result; lits = c.new.result; hints = c.new-2.result; lowest = c.lowest_index-lowest.result; backjump = c.len-count.result }

started : (c : goal.After-new-2) → IsWalked c.args.clauses.now (var_count c.args.trail.now) c.args.trail.now.steps.items (length c.args.trail.now.steps.items) (analysis-of c) × LeadsToConflict c.args.clauses.now c.args.trail.now.steps.items (length c.args.trail.now.steps.items) (analysis-of c).seen.items (analysis-of c).lits.items (reverse (analysis-of c).hints.items) (clause_at c.args.clauses.now c.args.id)
started c =
    let t = c.args.trail.now in
    let clauses = c.args.clauses.now in
    let old = c.args.seen in
    let is : clause_at clauses c.args.id ≡ c.get-clause.result.now = get_or_from_slice_get clauses (c.args.id - 1) c.get-clause.result.now [] c.get-clause.ensures in
    let count : c.len-count.result ≡ length t.steps.items = c.len-count.ensures ∙ t.steps.ok.0 in
    let unmarked : AreNoMarks (var_count t) c.as_mut_slice.result.now = subst (AreNoMarks (var_count t)) (sym c.as_mut_slice.ensures.value) c.requires.unmarked in
    let last = c.last_decision-last.result in
    let lowest = c.lowest_index-lowest.result in
    let new = c.mark_clause-at_last_level.new.seen in
    let needs = subst (λ (ps : List ℕ). MarksClause ps c.get-clause.result.now c.get-clause.result.now last c.as_mut_slice.result.now new c.mark_clause-at_last_level.result) c.deref.ensures.value c.mark_clause-at_last_level.ensures.needs in
    let there : take old.len (new ++ drop (length new) old.items) ≡ new =
    take_at new (drop (length new) old.items) old.len (needs.size ∙ ap length c.as_mut_slice.ensures.value ∙ sym old.ok.0) in
    walked-start clauses (var_count t) t.steps.items t.values.items t.indices.items t.decisions.items c.args.id last c.mark_clause-at_last_level.result c.mark_clause-at_last_level.result c.as_mut_slice.result.now c.get-clause.result.now (analysis-of c)
    c.requires.state c.requires.exist c.requires.before c.requires.falsified c.last_decision-last.ensures (sym is) unmarked
    (subst (λ (xs : List Bool). MarksClause t.indices.items c.get-clause.result.now c.get-clause.result.now last c.as_mut_slice.result.now xs c.mark_clause-at_last_level.result) (sym there) needs)
    (subst (λ (ps : List ℕ). All (λ l. lowest ≤ trail_index ps l) c.get-clause.result.now) c.deref-2.ensures.value c.lowest_index-lowest.ensures.each)
    (subst (λ (k : ℕ). (lowest ≡ k) ⊎ ((l : Lit) × Contains c.get-clause.result.now l × (lowest ≡ trail_index t.indices.items l))) count
    (subst (λ (ps : List ℕ). (lowest ≡ c.len-count.result) ⊎ ((l : Lit) × Contains c.get-clause.result.now l × (lowest ≡ trail_index ps l))) c.deref-2.ensures.value c.lowest_index-lowest.ensures.reached))
    refl refl c.new.ensures.items c.new-2.ensures.items

pub returns-clause-walked : goal.returns-clause-walked
returns-clause-walked c = (started c).0

pub returns-clause-leads : goal.returns-clause-leads
returns-clause-leads c = (started c).1
