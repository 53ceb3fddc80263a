-- The trail with one step more, with its last step taken back, and over more clauses.
use Rattle.std.proofs.Common.{◌≡◌, ◌≢◌, ℕ, ◌+◌, ◌-◌, ◌<◌, ◌≤◌, Bool, cond, List, [], ◌∷◌, ◌++◌, length, take, set, get_or, refl, sym, ap, ◌∙◌, subst, arith, inl, inr, Option, Some, None, append_assoc}
use Rattle.std.specs.Prelude.{is_none, replicate}
use Rattle.std.specs.List.{All, Contains, count_by}
use Rattle.std.proofs.lemmas.Bool.{cases_eq, cases_lt}
use Rattle.std.proofs.lemmas.List.{take_at, take-append-le, get_or_append_left, get_or-append_right, get_or_push, get_or-set_same, get_or-set_other, length-set, length_push, length-append, length-replicate, get_or-replicate}
use Rattle.std.proofs.lemmas.List.Folds.{sum_by-replicate}
use Rattle.std.proofs.lemmas.List.Sums.{sum_by-set}
use Rattle.std.proofs.lemmas.List.Elements.{All-nil, All-push, All-contains}
use Rattle.cnf_core.specs.declared.literal.Lit.{Lit}
use Rattle.cnf_core.specs.Formula.{IsLitOf, AreOver}
use Rattle.cnf_core.specs.Values.{IsClosed, IsFalseClause}
use Rattle.cnf_core.specs.Refutation.{clause_at}
use Rattle.sat_core.specs.declared.trail.Step.{Step}
use Rattle.sat_core.specs.declared.trail.Value.{Value}
use Rattle.sat_core.specs.declared.trail.Value.TheVariants.{Unassigned}
use Rattle.sat_core.specs.Steps.{truth_value, is_unassigned, assignment_of, trail_values, with_decision, decision_indices, IsReason, IsRightStep, AreSteps, Propagates, AreClosedBefore}
use Rattle.sat_core.specs.FalseClauses.{IsFalsified}
use Rattle.sat_core.proofs.Agreeing.{unit-agrees, false-agrees, open-agrees}
use Rattle.sat_core.proofs.Holding.{none≢some, held-push-other, held-push-same, held-at}
use Rattle.sat_core.proofs.Deciding.{decisions-push}

abbrev Values : Type 0
Values = List Value

given-same : (values : Values) (l : Lit) (v : Value) → truth_value v ≡ Some l.positive → 1 ≤ l.var → l.var ≤ length values → assignment_of (set values (l.var - 1) v) l.var ≡ Some l.positive
unfolding assignment_of
given-same values l v is low high = ap truth_value (get_or-set_same values (l.var - 1) v Unassigned (omega arith)) ∙ is

given-other : (values : Values) (l : Lit) (v : Value) (x : ℕ) → 1 ≤ l.var → 1 ≤ x → (l.var ≡ x → ⊥) → assignment_of (set values (l.var - 1) v) x ≡ assignment_of values x
unfolding assignment_of
given-other values l v x low low' other = let ne : x - 1 ≢ l.var - 1 = omega arith in ap truth_value (get_or-set_other values (l.var - 1) (x - 1) v Unassigned ne)

-- one variable fewer without a value
room-push : (values : Values) (l : Lit) (v : Value) → truth_value v ≡ Some l.positive → 1 ≤ l.var → l.var ≤ length values → assignment_of values l.var ≡ None → count_by is_unassigned (set values (l.var - 1) v) + 1 ≡ count_by is_unassigned values
unfolding assignment_of
room-push values l v is low high free =
    let e : count_by is_unassigned (set values (l.var - 1) v) + cond {A = ℕ} (is_unassigned (get_or values (l.var - 1) Unassigned)) 1 0 ≡ count_by is_unassigned values + cond {A = ℕ} (is_unassigned v) 1 0 =
    sum_by-set (λ (o : Value). cond {A = ℕ} (is_unassigned o) 1 0) values (l.var - 1) v Unassigned (omega arith) in
    let one : cond {A = ℕ} (is_unassigned (get_or values (l.var - 1) Unassigned)) 1 0 ≡ 1 = ap (λ (o : Option Bool). cond {A = ℕ} (is_none o) 1 0) free in
    let none : cond {A = ℕ} (is_unassigned v) 1 0 ≡ 0 = ap (λ (o : Option Bool). cond {A = ℕ} (is_none o) 1 0) is in
    omega arith

-- one more right step
steps-push-of : (clauses : List (List Lit)) (n : ℕ) (steps : List Step) (values : Values) (indices decisions : List ℕ) (step : Step) (v : Value) → truth_value v ≡ Some step.lit.positive → IsLitOf n step.lit → AreSteps clauses n steps values indices decisions → IsRightStep clauses steps step → AreSteps clauses n (steps ++ step ∷ []) (set values (step.lit.var - 1) v) (set indices (step.lit.var - 1) (length steps)) (decisions ++ with_decision step.reason (length steps) [])
steps-push-of clauses n steps values indices decisions step v is-v at h right =
    let l = step.lit in
    let size = length-set values (l.var - 1) v in
    let slots = length-set indices (l.var - 1) (length steps) in
    let free : assignment_of values l.var ≡ None = sym (h.shows l.var at.above at.within) ∙ right.free in
    let within : l.var ≤ length values = (let a = at.within in let b = h.size in omega arith) in
    let within' : l.var - 1 < length indices = (let a = at.within in let c = at.above in let b = h.slots in omega arith) in
    let long = length_push steps step in
    let from-zero : length steps ≡ 0 + length steps = omega arith in
    record {
      trail = λ k d few. elim (cases_lt k (length steps)) [
        | inl before ↦
            subst (λ (front : List Step). IsRightStep clauses front (get_or (steps ++ step ∷ []) k d)) (sym (take-append-le k steps (step ∷ []) (omega arith)))
            (subst (IsRightStep clauses (take k steps)) (sym (get_or_append_left steps (step ∷ []) d k before)) (h.trail k d before))
        | inr last ↦
            (let here : length steps ≡ k = omega arith in
            subst (λ (front : List Step). IsRightStep clauses front (get_or (steps ++ step ∷ []) k d)) (sym (take_at steps (step ∷ []) k here))
            (subst (IsRightStep clauses steps) (sym (get_or_push steps step d k here)) right))
      ];
      exist = All-push (λ (s : Step). IsLitOf n s.lit) steps step h.exist at;
      size = size ∙ h.size;
      shows = λ x low high. elim (cases_eq l.var x) [
        | inl same ↦ subst (λ (y : ℕ). trail_values (steps ++ step ∷ []) y ≡ assignment_of (set values (l.var - 1) v) y) same
            (held-push-same steps step right.free ∙ sym (given-same values l v is-v at.above within))
        | inr other ↦ held-push-other steps step x other ∙ h.shows x low high ∙ sym (given-other values l v x at.above low other)
      ];
      room = (let fewer = room-push values l v is-v at.above within free in let room = h.room in omega arith);
      slots = slots ∙ h.slots;
      placed = λ k d few. elim (cases_lt k (length steps)) [
        | inl before ↦
            (let s = get_or steps k d in
            let all : take (length steps) steps ≡ steps = take_all' steps in
            let value : trail_values steps s.lit.var ≡ Some s.lit.positive = subst (λ (xs : List Step). trail_values xs s.lit.var ≡ Some s.lit.positive) all (held-at clauses steps (length steps) k d h.trail before before) in
            let other : l.var ≢ s.lit.var = λ e. none≢some (sym right.free ∙ ap (trail_values steps) e ∙ value) in
            let low = (h.exist k d before).above in
            let low' = at.above in
            let ne : s.lit.var - 1 ≢ l.var - 1 = omega arith in
            subst (λ (t : Step). get_or (set indices (l.var - 1) (length steps)) (t.lit.var - 1) 0 ≡ k) (sym (get_or_append_left steps (step ∷ []) d k before))
            (get_or-set_other indices (l.var - 1) (s.lit.var - 1) (length steps) 0 ne ∙ h.placed k d before))
        | inr last ↦
            (let here : length steps ≡ k = omega arith in
            subst (λ (t : Step). get_or (set indices (l.var - 1) (length steps)) (t.lit.var - 1) 0 ≡ k) (sym (get_or_push steps step d k here))
            (get_or-set_same indices (l.var - 1) (length steps) 0 within' ∙ here))
      ];
      decided = ap (λ (ds : List ℕ). ds ++ with_decision step.reason (length steps) []) h.decided ∙ ap (λ (k : ℕ). decision_indices steps ++ with_decision step.reason k []) from-zero ∙ sym (decisions-push 0 steps step);
    }
  where
    take_all' : (xs : List Step) → take (length xs) xs ≡ xs
    take_all' [] = refl
    take_all' (x ∷ xs) = ap (λ (ys : List Step). x ∷ ys) (take_all' xs)

pub steps-push : (clauses : List (List Lit)) (n : ℕ) (steps steps' : List Step) (values values' : Values) (indices indices' decisions decisions' : List ℕ) (step : Step) (v : Value) → truth_value v ≡ Some step.lit.positive → IsLitOf n step.lit → steps' ≡ steps ++ step ∷ [] → values' ≡ set values (step.lit.var - 1) v → indices' ≡ set indices (step.lit.var - 1) (length steps) → decisions' ≡ decisions ++ with_decision step.reason (length steps) [] → AreSteps clauses n steps values indices decisions → IsRightStep clauses steps step → AreSteps clauses n steps' values' indices' decisions'
steps-push clauses n steps steps' values values' indices indices' decisions decisions' step v is-v at is-steps is-values is-indices is-decisions h right =
    subst (λ (ss : List Step). AreSteps clauses n ss values' indices' decisions') (sym is-steps)
    (subst (λ (vs : Values). AreSteps clauses n (steps ++ step ∷ []) vs indices' decisions') (sym is-values)
    (subst (λ (ps : List ℕ). AreSteps clauses n (steps ++ step ∷ []) (set values (step.lit.var - 1) v) ps decisions') (sym is-indices)
    (subst (λ (ds : List ℕ). AreSteps clauses n (steps ++ step ∷ []) (set values (step.lit.var - 1) v) (set indices (step.lit.var - 1) (length steps)) ds) (sym is-decisions)
    (steps-push-of clauses n steps values indices decisions step v is-v at h right))))

-- the last step taken back
pub steps-pop : (clauses : List (List Lit)) (n : ℕ) (steps : List Step) (step : Step) (values : Values) (indices decisions decisions' : List ℕ) → (decisions ≡ decision_indices (steps ++ step ∷ []) → decisions' ≡ decision_indices steps) → AreSteps clauses n (steps ++ step ∷ []) values indices decisions → AreSteps clauses n steps (set values (step.lit.var - 1) Unassigned) indices decisions'
unfolding assignment_of
steps-pop clauses n steps step values indices decisions decisions' fewer h =
    let l = step.lit in
    let size = length-set values (l.var - 1) Unassigned in
    let long = length_push steps step in
    let at : IsLitOf n l = subst (λ (s : Step). IsLitOf n s.lit) (get_or_push steps step step (length steps) refl) (h.exist (length steps) step (omega arith)) in
    let right : IsRightStep clauses steps step =
    subst (IsRightStep clauses steps) (get_or_push steps step step (length steps) refl)
    (subst (λ (front : List Step). IsRightStep clauses front (get_or (steps ++ step ∷ []) (length steps) step)) (take_at steps (step ∷ []) (length steps) refl) (h.trail (length steps) step (omega arith))) in
    let within : l.var ≤ length values = (let a = at.within in let b = h.size in omega arith) in
    let was : truth_value (get_or values (l.var - 1) Unassigned) ≡ Some l.positive = sym (h.shows l.var at.above at.within) ∙ held-push-same steps step right.free in
    record {
      trail = λ k d few.
          subst (IsRightStep clauses (take k steps)) (get_or_append_left steps (step ∷ []) d k few)
          (subst (λ (front : List Step). IsRightStep clauses front (get_or (steps ++ step ∷ []) k d)) (take-append-le k steps (step ∷ []) (omega arith)) (h.trail k d (omega arith)));
      exist = λ k d few. subst (λ (s : Step). IsLitOf n s.lit) (get_or_append_left steps (step ∷ []) d k few) (h.exist k d (omega arith));
      size = size ∙ h.size;
      shows = λ x low high. elim (cases_eq l.var x) [
        | inl same ↦ subst (λ (y : ℕ). trail_values steps y ≡ truth_value (get_or (set values (l.var - 1) Unassigned) (y - 1) Unassigned)) same
            (right.free ∙ sym (ap truth_value (get_or-set_same values (l.var - 1) Unassigned Unassigned (omega arith))))
        | inr other ↦
            (let ne : x - 1 ≢ l.var - 1 = (let a = at.above in omega arith) in
            sym (held-push-other steps step x other) ∙ h.shows x low high ∙ sym (ap truth_value (get_or-set_other values (l.var - 1) (x - 1) Unassigned Unassigned ne)))
      ];
      room =
          (let e : count_by is_unassigned (set values (l.var - 1) Unassigned) + cond {A = ℕ} (is_unassigned (get_or values (l.var - 1) Unassigned)) 1 0 ≡ count_by is_unassigned values + 1 =
          sum_by-set (λ (o : Value). cond {A = ℕ} (is_unassigned o) 1 0) values (l.var - 1) Unassigned Unassigned (let a = at.above in omega arith) in
          let zero' : cond {A = ℕ} (is_unassigned (get_or values (l.var - 1) Unassigned)) 1 0 ≡ 0 = ap (λ (o : Option Bool). cond {A = ℕ} (is_none o) 1 0) was in
          let room = h.room in omega arith);
      slots = h.slots;
      placed = λ k d few. subst (λ (t : Step). get_or indices (t.lit.var - 1) 0 ≡ k) (get_or_append_left steps (step ∷ []) d k few) (h.placed k d (omega arith));
      decided = fewer h.decided;
    }

-- the values and the steps agree on a clause's variables
pub agree : (clauses : List (List Lit)) (n : ℕ) (steps : List Step) (values : Values) (indices decisions : List ℕ) (c : List Lit) → AreSteps clauses n steps values indices decisions → All (IsLitOf n) c → (m : Lit) → Contains c m → assignment_of values m.var ≡ trail_values steps m.var
agree clauses n steps values indices decisions c h exist m there =
    let at = All-contains (IsLitOf n) c m exist there in
    sym (h.shows m.var at.above at.within)

pub clause-exists : (clauses : List (List Lit)) (n id : ℕ) → AreOver n clauses → 1 ≤ id → id ≤ length clauses → All (IsLitOf n) (clause_at clauses id)
clause-exists clauses n id exist low high = exist (id - 1) [] (omega arith)

-- **a clause that is unit by the values gives a right step**
pub reason-right : (clauses : List (List Lit)) (n : ℕ) (steps : List Step) (values : Values) (indices decisions : List ℕ) (l : Lit) (id : ℕ) → AreSteps clauses n steps values indices decisions → AreOver n clauses → IsReason (assignment_of values) clauses id l → IsLitOf n l × IsRightStep clauses steps (record { lit = l; reason = Some id })
reason-right clauses n steps values indices decisions l id h over r =
    let c = clause_at clauses id in
    let exist = clause-exists clauses n id over r.low r.high in
    let u = unit-agrees (assignment_of values) (trail_values steps) c l (agree clauses n steps values indices decisions c h exist) r.unit in (
      All-contains (IsLitOf n) c l exist u.among,
      record { free = u.free; forced = λ id' is. (let same : id ≡ id' = cc in subst (λ (i : ℕ). IsReason (trail_values steps) clauses i l) same (record { low = r.low; high = r.high; unit = u })) },
    )

-- a decision of a free variable is a right step
pub decision-right : (clauses : List (List Lit)) (n : ℕ) (steps : List Step) (values : Values) (indices decisions : List ℕ) (l : Lit) → AreSteps clauses n steps values indices decisions → 1 ≤ l.var → l.var ≤ n → assignment_of values l.var ≡ None → IsRightStep clauses steps (record { lit = l; reason = None })
decision-right clauses n steps values indices decisions l h low high free =
    record { free = h.shows l.var low high ∙ free; forced = λ id is. absurd (no-id id is) }
  where
    no-id : (id : ℕ) → None ≡ Some id → ⊥
    no-id id e = cc

-- what holds by the values holds by the steps
pub closed-held : (clauses : List (List Lit)) (n : ℕ) (steps : List Step) (values : Values) (indices decisions : List ℕ) → AreSteps clauses n steps values indices decisions → AreOver n clauses → IsClosed (assignment_of values) clauses → IsClosed (trail_values steps) clauses
closed-held clauses n steps values indices decisions h exist closed = λ k d few.
    open-agrees (assignment_of values) (trail_values steps) (get_or clauses k d) (agree clauses n steps values indices decisions (get_or clauses k d) h (exist k d few)) (closed k d few)

pub falsified-held : (clauses : List (List Lit)) (n : ℕ) (steps : List Step) (values : Values) (indices decisions : List ℕ) (id : ℕ) → AreSteps clauses n steps values indices decisions → AreOver n clauses → IsFalsified (assignment_of values) clauses id → IsFalseClause (trail_values steps) (clause_at clauses id)
falsified-held clauses n steps values indices decisions id h over r =
    false-agrees (assignment_of values) (trail_values steps) (clause_at clauses id) (agree clauses n steps values indices decisions (clause_at clauses id) h (clause-exists clauses n id over r.low r.high)) r.false'

pub propagates-push : (old new new' : List Step) (step : Step) → Propagates old new → new' ≡ new ++ step ∷ [] → (step.reason ≢ None) → Propagates old new'
propagates-push old new new' step (added, is, forced) is' some = (
  added ++ step ∷ [],
  is' ∙ ap (λ (xs : List Step). xs ++ step ∷ []) is ∙ append_assoc old added (step ∷ []),
  All-push (λ (s : Step). s.reason ≢ None) added step forced some,
)

-- **propagation keeps the values closed before each decision**
pub propagated-closed : (clauses : List (List Lit)) (old new : List Step) → AreClosedBefore clauses old → Propagates old new → AreClosedBefore clauses new
propagated-closed clauses old new closed (added, is, forced) =
    subst (AreClosedBefore clauses) (sym is) (λ k d few decides. elim (cases_lt k (length old)) [
      | inl before ↦
          subst (λ (xs : List Step). IsClosed (trail_values xs) clauses) (sym (take-append-le k old added (omega arith)))
          (closed k d before (subst (λ (s : Step). s.reason ≡ None) (get_or_append_left old added d k before) decides))
      | inr after ↦
          (let long = length-append old added in
          let at = get_or-append_right old added (length old) k d refl after in
          absurd (forced (k - length old) d (omega arith) (subst (λ (s : Step). s.reason ≡ None) at decides)))
    ])

-- **and so does a decision on closed values**
pub decided-closed : (clauses : List (List Lit)) (old new : List Step) (step : Step) → AreClosedBefore clauses old → IsClosed (trail_values old) clauses → new ≡ old ++ step ∷ [] → AreClosedBefore clauses new
decided-closed clauses old new step closed now is =
    subst (AreClosedBefore clauses) (sym is) (λ k d few decides. elim (cases_lt k (length old)) [
      | inl before ↦
          subst (λ (xs : List Step). IsClosed (trail_values xs) clauses) (sym (take-append-le k old (step ∷ []) (omega arith)))
          (closed k d before (subst (λ (s : Step). s.reason ≡ None) (get_or_append_left old (step ∷ []) d k before) decides))
      | inr last ↦
          (let long = length_push old step in
          subst (λ (xs : List Step). IsClosed (trail_values xs) clauses) (sym (take_at old (step ∷ []) k (omega arith))) now)
    ])

-- no step at all
pub steps-none : (clauses : List (List Lit)) (n : ℕ) (steps : List Step) (values : Values) (indices decisions : List ℕ) → steps ≡ [] → values ≡ replicate n Unassigned → indices ≡ replicate n 0 → decisions ≡ [] → AreSteps clauses n steps values indices decisions
unfolding assignment_of
steps-none clauses n steps values indices decisions is-steps is-values is-indices is-decisions =
    subst (λ (ss : List Step). AreSteps clauses n ss values indices decisions) (sym is-steps)
    (subst (λ (vs : Values). AreSteps clauses n [] vs indices decisions) (sym is-values)
    (record {
      trail = λ k d few. absurd (omega (arith, few));
      exist = All-nil (λ (s : Step). IsLitOf n s.lit);
      size = length-replicate n Unassigned;
      shows = λ x low high. sym (ap truth_value (get_or-replicate n (x - 1) Unassigned Unassigned (omega arith)));
      room = (let all = sum_by-replicate (λ (o : Value). cond {A = ℕ} (is_unassigned o) 1 0) n Unassigned in omega arith);
      slots = ap length is-indices ∙ length-replicate n 0;
      placed = λ k d few. absurd (omega (arith, few));
      decided = is-decisions;
    }))
