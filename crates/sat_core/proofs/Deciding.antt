-- The trail indices of the decisions: with one step more, and of the first and of the last decision.
use Rattle.std.proofs.Common.{◌≡◌, ◌≢◌, ℕ, ◌+◌, ◌-◌, ◌<◌, ◌≤◌, Bool, true, false, not, take, List, [], ◌∷◌, ◌++◌, length, get_or, refl, sym, ap, ◌∙◌, subst, arith, inl, inr, suc, zero, Option, Some, None, append-nil}
use Rattle.std.specs.Prelude.{is_some, ◌==◌}
use Rattle.std.proofs.lemmas.Bool.{cases_eq, false≢true}
use Rattle.std.proofs.lemmas.Bool.Decides.{Decides-eqb}
use Rattle.std.proofs.lemmas.List.{length_push, take_at, get_or_read}
use Rattle.sat_core.specs.declared.trail.Step.{Step}
use Rattle.sat_core.specs.Steps.{with_decision, decision_indices_from, decision_indices}
use Rattle.sat_core.specs.Walks.{IsLastDecision, IsDecisionOrEnd}

with-append : (o : Option ℕ) (k : ℕ) (ks ms : List ℕ) → with_decision o k (ks ++ ms) ≡ with_decision o k ks ++ ms
with-append None k ks ms = refl
with-append (Some id) k ks ms = refl

-- **one step more**
pub decisions-push : (k : ℕ) (steps : List Step) (step : Step) → decision_indices_from k (steps ++ step ∷ []) ≡ decision_indices_from k steps ++ with_decision step.reason (k + length steps) []
decisions-push k [] step = let e : k ≡ k + 0 = omega arith in ap (λ (j : ℕ). with_decision step.reason j []) e
decisions-push k (s ∷ steps) step =
    let e : k + 1 + length steps ≡ k + length (s ∷ steps) = omega arith in
    ap (with_decision s.reason k) (decisions-push (k + 1) steps step ∙ ap (λ (j : ℕ). decision_indices_from (k + 1) steps ++ with_decision step.reason j []) e)
    ∙ with-append s.reason k (decision_indices_from (k + 1) steps) (with_decision step.reason (k + length (s ∷ steps)) [])

none-of : (o : Option ℕ) (b : Bool) → is_some o ≡ not b → b ≡ true → o ≡ None
none-of None b is e = refl
none-of (Some id) b is e = absurd (false≢true (sym (is ∙ ap not e)))

some-with : (o : Option ℕ) (b : Bool) (k : ℕ) → is_some o ≡ not b → b ≡ false → with_decision o k [] ≡ []
some-with None b k is e = absurd (false≢true (is ∙ ap not e))
some-with (Some id) b k is e = refl

pub push-with : (o : Option ℕ) (b : Bool) (k : ℕ) (ds ds' : List ℕ) → is_some o ≡ not b → b ≡ true → ds' ≡ ds ++ k ∷ [] → ds' ≡ ds ++ with_decision o k []
push-with o b k ds ds' is e added = added ∙ ap (λ (p : Option ℕ). ds ++ with_decision p k []) (sym (none-of o b is e))

pub stay-with : (o : Option ℕ) (b : Bool) (k : ℕ) (ds : List ℕ) → is_some o ≡ not b → b ≡ false → ds ≡ ds ++ with_decision o k []
stay-with o b k ds is e = sym (ap (λ (ks : List ℕ). ds ++ ks) (some-with o b k is e) ∙ append-nil ds)

-- **the last step fewer**, a decision or not
pub decisions-pop : (ds ds' : List ℕ) (count : ℕ) (front : List Step) (step : Step) (b : Bool) → is_some step.reason ≡ not b → b ≡ true → count ≡ length ds → ds' ≡ take (count - 1) ds
    → ds ≡ decision_indices (front ++ step ∷ []) → ds' ≡ decision_indices front
decisions-pop ds ds' count front step b is e size popped all =
    let here : ds ≡ decision_indices front ++ (0 + length front) ∷ [] =
    all ∙ decisions-push 0 front step ∙ ap (λ (o : Option ℕ). decision_indices front ++ with_decision o (0 + length front) []) (none-of step.reason b is e) in
    let long = ap length here ∙ length_push (decision_indices front) (0 + length front) in
    popped ∙ ap (take (count - 1)) here ∙ take_at (decision_indices front) ((0 + length front) ∷ []) (count - 1) (omega arith)

pub decisions-keep : (ds : List ℕ) (front : List Step) (step : Step) (b : Bool) → is_some step.reason ≡ not b → b ≡ false
    → ds ≡ decision_indices (front ++ step ∷ []) → ds ≡ decision_indices front
decisions-keep ds front step b is e all =
    all ∙ decisions-push 0 front step ∙ ap (λ (ks : List ℕ). decision_indices front ++ ks) (some-with step.reason b (0 + length front) is e) ∙ append-nil (decision_indices front)

-- the step with this index is a decision
record DecidesAt (k : ℕ) (steps : List Step) (j : ℕ) : Type 0 where
  low : k ≤ j
  high : j < k + length steps
  none : (d : Step) → (get_or steps (j - k) d).reason ≡ None

later : (k : ℕ) (s : Step) (steps : List Step) (j : ℕ) → DecidesAt (k + 1) steps j → DecidesAt k (s ∷ steps) j
later k s steps j h =
    let low = h.low in
    let high = h.high in
    let at : suc (j - (k + 1)) ≡ j - k = omega arith in
    record { low = omega arith; high = omega arith; none = λ d. subst (λ (i : ℕ). (get_or (s ∷ steps) i d).reason ≡ None) at (h.none d) }

each-more : (k : ℕ) (s : Step) (steps : List Step) (ks : List ℕ) → ((i : ℕ) → i < length ks → DecidesAt (k + 1) steps (get_or ks i 0)) → (i : ℕ) (o : Option ℕ) → s.reason ≡ o
    → i < length (with_decision o k ks) → DecidesAt k (s ∷ steps) (get_or (with_decision o k ks) i 0)
each-more k s steps ks each zero None is few =
    let at : 0 ≡ k - k = omega arith in
    record { low = omega arith; high = omega arith; none = λ d. subst (λ (i : ℕ). (get_or (s ∷ steps) i d).reason ≡ None) at is }
each-more k s steps ks each (suc i) None is few = later k s steps (get_or ks i 0) (each i (omega (arith, few)))
each-more k s steps ks each i (Some id) is few = later k s steps (get_or ks i 0) (each i few)

-- each of them is one
each-decides : (k : ℕ) (steps : List Step) (i : ℕ) → i < length (decision_indices_from k steps) → DecidesAt k steps (get_or (decision_indices_from k steps) i 0)
each-decides k [] i few = absurd (omega (arith, few))
each-decides k (s ∷ steps) i few = each-more k s steps (decision_indices_from (k + 1) steps) (λ j. each-decides (k + 1) steps j) i s.reason refl few

-- it stands in a list
Stands : List ℕ → ℕ → Type 0
Stands ks j = (i : ℕ) × (i < length ks) × (get_or ks i 0 ≡ j)

stands-more : (o : Option ℕ) (k : ℕ) (ks : List ℕ) (j : ℕ) → Stands ks j → Stands (with_decision o k ks) j
unfolding Stands
stands-more None k ks j (i, few, is) = (suc i, (omega (arith, few)), is)
stands-more (Some id) k ks j (i, few, is) = (i, few, is)

stands-first : (o : Option ℕ) (k : ℕ) (ks : List ℕ) (j : ℕ) → k ≡ j → o ≡ None → Stands (with_decision o k ks) j
unfolding Stands
stands-first None k ks j is none = (0, (omega arith), is)
stands-first (Some id) k ks j is none = absurd (some-none none)
  where
    some-none : Some id ≡ None → ⊥
    some-none e = cc

-- and each decision is among them
all-stand : (k : ℕ) (steps : List Step) (j : ℕ) (d : Step) → j < length steps → (get_or steps j d).reason ≡ None → Stands (decision_indices_from k steps) (k + j)
all-stand k [] j d few none = absurd (omega (arith, few))
all-stand k (s ∷ steps) zero d few none = stands-first s.reason k (decision_indices_from (k + 1) steps) (k + 0) (omega arith) none
all-stand k (s ∷ steps) (suc j) d few none =
    let at : k + 1 + j ≡ k + suc j = omega arith in
    stands-more s.reason k (decision_indices_from (k + 1) steps) (k + suc j)
    (subst (Stands (decision_indices_from (k + 1) steps)) at (all-stand (k + 1) steps j d (omega (arith, few)) none))

rise-more : (k : ℕ) (ks : List ℕ) → ((i : ℕ) → i < length ks → k < get_or ks i 0) → ((i j : ℕ) → i < j → j < length ks → get_or ks i 0 < get_or ks j 0)
    → (o : Option ℕ) (i j : ℕ) → i < j → j < length (with_decision o k ks) → get_or (with_decision o k ks) i 0 < get_or (with_decision o k ks) j 0
rise-more k ks above rise (Some id) i j less few = rise i j less few
rise-more k ks above rise None i zero less few = absurd (omega (arith, less))
rise-more k ks above rise None zero (suc j) less few = above j (omega (arith, few))
rise-more k ks above rise None (suc i) (suc j) less few = rise i j (omega (arith, less)) (omega (arith, few))

-- they rise
rise : (k : ℕ) (steps : List Step) (i j : ℕ) → i < j → j < length (decision_indices_from k steps) → get_or (decision_indices_from k steps) i 0 < get_or (decision_indices_from k steps) j 0
rise k [] i j less few = absurd (omega (arith, few))
rise k (s ∷ steps) i j less few =
    rise-more k (decision_indices_from (k + 1) steps) (λ m within. (let low = (each-decides (k + 1) steps m within).low in omega arith)) (λ a b. rise (k + 1) steps a b) s.reason i j less few

less-zero : (j : ℕ) → j - 0 ≡ j
less-zero j = omega arith

-- **the first decision**
pub record IsFirstDecision (steps : List Step) (first : ℕ) : Type 0 where
  pub decides : IsDecisionOrEnd steps first
  pub before : (k : ℕ) (d : Step) → k < first → (get_or steps k d).reason ≢ None

pub first-none : (steps : List Step) → decision_indices steps ≡ [] → IsFirstDecision steps (length steps)
unfolding Stands
first-none steps is =
    record {
      decides = λ d few. absurd (omega arith);
      before = λ k d few none. (let (i, low, e) = all-stand 0 steps k d few none in let size = ap length is in absurd (omega arith));
    }

pub first-some : (steps : List Step) → 0 < length (decision_indices steps) → IsFirstDecision steps (get_or (decision_indices steps) 0 0)
unfolding Stands
first-some steps some =
    let at = each-decides 0 steps 0 some in
    record {
      decides = λ d few. subst (λ (j : ℕ). (get_or steps j d).reason ≡ None) (less-zero (get_or (decision_indices steps) 0 0)) (at.none d);
      before = λ k d low none.
          (let high = at.high in
          let (i, few, e) = all-stand 0 steps k d (omega arith) none in
          elim (cases_eq i 0) [
            | inl same ↦ (let here = ap (λ (j : ℕ). get_or (decision_indices steps) j 0) same in absurd (omega arith))
            | inr other ↦ (let up = rise 0 steps 0 i (omega arith) few in absurd (omega arith))
          ]);
    }

-- **the last decision**
pub last-none : (steps : List Step) → decision_indices steps ≡ [] → IsLastDecision steps (length steps)
unfolding Stands
last-none steps is =
    record {
      within = omega arith;
      decides = λ d few. absurd (omega arith);
      after = λ k d low few. absurd (omega arith);
      none = λ same k d few none. (let (i, low, e) = all-stand 0 steps k d few none in let size = ap length is in absurd (omega arith));
    }

pub last-some : (steps : List Step) (i : ℕ) → i + 1 ≡ length (decision_indices steps) → IsLastDecision steps (get_or (decision_indices steps) i 0)
unfolding Stands
last-some steps i is =
    let at = each-decides 0 steps i (omega arith) in
    let high = at.high in
    record {
      within = omega arith;
      decides = λ d few. subst (λ (j : ℕ). (get_or steps j d).reason ≡ None) (less-zero (get_or (decision_indices steps) i 0)) (at.none d);
      after = λ k d low few none.
          (let (j, within, e) = all-stand 0 steps k d few none in
          elim (cases_eq j i) [
            | inl same ↦ (let here = ap (λ (m : ℕ). get_or (decision_indices steps) m 0) same in absurd (omega arith))
            | inr other ↦ (let up = rise 0 steps j i (omega arith) (omega arith) in absurd (omega arith))
          ]);
      none = λ same. absurd (omega arith);
    }

-- a list that is empty or not, as `is_empty` says
pub empty-of : (n : ℕ) (b : Bool) → b ≡ (n == 0) → b ≡ true → n ≡ 0
empty-of n b is e = (Decides-eqb n 0).0 (sym is ∙ e)

pub some-of : (n : ℕ) (b : Bool) → b ≡ (n == 0) → b ≡ false → 0 < n
some-of zero b is e = absurd (false≢true (sym e ∙ is))
some-of (suc n) b is e = omega arith

pub first-read : (steps : List Step) (ds : List ℕ) (j n : ℕ) (b : Bool) → ds ≡ decision_indices steps → n ≡ length ds → b ≡ (n == 0) → b ≡ false → j ≡ get_or ds 0 j → IsFirstDecision steps j
first-read steps ds j n b all size is e at =
    let some = some-of n b is e in
    let same = ap length all in
    subst (IsFirstDecision steps) (sym (get_or_read ds 0 j (omega arith) at 0 ∙ ap (λ (xs : List ℕ). get_or xs 0 0) all)) (first-some steps (omega arith))
