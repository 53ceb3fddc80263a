-- A fact or its refutation, found by computing: what machine tables don't need.
use Rattle.std.proofs.Common.{◌≡◌, ℕ, zero, suc, ◌<◌, ◌≤◌, List, [], ◌∷◌, length, refl, sym, ap, subst, inl, inr, ◌⊎◌, arith, Bool, true, false, get_or, Option, Some, None}
use Rattle.std.specs.Prelude.{Any, Contains, IsTrue, IsSomeAnd, IfSome, slice_get}
use Rattle.std.proofs.lemmas.Bool.{false≢true}
use Rattle.graph_meaning.proofs.Lists.{any_nil, any_here, any_there, any_cases}
use Rattle.machine_table.proofs.Decide.{Dec, dec_nat, dec_map, dec_le}

abbrev pub dec_true : (b : Bool) → Dec (IsTrue b)
dec_true true = inl refl
dec_true false = inr (λ h. false≢true h)

abbrev pub dec_or : {P Q : Type 0} → Dec P → Dec Q → Dec (P ⊎ Q)
dec_or (inl p) q = inl (inl p)
dec_or (inr n) (inl q) = inl (inr q)
dec_or (inr n) (inr m) = inr (λ h. elim h [ inl p ↦ n p | inr q ↦ m q ])

abbrev pub dec_imp : {P Q : Type 0} → Dec P → Dec Q → Dec (P → Q)
dec_imp p (inl q) = inl (λ h. q)
dec_imp (inr n) (inr m) = inl (λ h. absurd (n h))
dec_imp (inl p) (inr m) = inr (λ f. m (f p))

module _ {X : Type 0} (P : X → Type 0) (d : (x : X) → Dec (P x)) where
  abbrev pub dec_any : (xs : List X) → Dec (Any P xs)
  dec_any [] = inr (any_nil P)
  dec_any (x ∷ xs) =
      dec_map
      (λ h. elim h [ inl p ↦ any_here P x xs p | inr r ↦ any_there P x xs r ])
      (λ n h. n (any_cases P x xs h))
      (dec_or (d x) (dec_any xs))

abbrev pub dec_some : {X : Type 0} (o : Option X) (P : X → Type 0) → ((x : X) → Dec (P x)) → Dec (IsSomeAnd o P)
dec_some None P d = inr (λ h. h)
dec_some (Some x) P d = d x

abbrev pub dec_if_some : {X : Type 0} (o : Option X) (P : X → Type 0) → ((x : X) → Dec (P x)) → Dec (IfSome o P)
dec_if_some None P d = inl tt
dec_if_some (Some x) P d = d x

pub contains_nil : (x : ℕ) → ¬ Contains [] x
contains_nil x h = let l : h.0 < 0 = h.1 in absurd (omega arith)

pub contains_here : (y : ℕ) (ys : List ℕ) (x : ℕ) → (y ≡ x) ⊎ Contains ys x → Contains (y ∷ ys) x
contains_here y ys x (inl e) = (0, omega arith, e)
contains_here y ys x (inr h) = (suc h.0, (let l = h.1 in omega arith), h.2)

contains_cases_at : (y : ℕ) (ys : List ℕ) (x k : ℕ) → k < suc (length ys) → get_or (y ∷ ys) k x ≡ x → (y ≡ x) ⊎ Contains ys x
contains_cases_at y ys x zero l e = inl e
contains_cases_at y ys x (suc k) l e = inr (k, omega arith, e)

pub contains_cases : (y : ℕ) (ys : List ℕ) (x : ℕ) → Contains (y ∷ ys) x → (y ≡ x) ⊎ Contains ys x
contains_cases y ys x h = contains_cases_at y ys x h.0 h.1 h.2

abbrev pub dec_contains : (xs : List ℕ) (x : ℕ) → Dec (Contains xs x)
dec_contains [] x = inr (contains_nil x)
dec_contains (y ∷ ys) x =
    dec_map (contains_here y ys x) (λ n h. n (contains_cases y ys x h)) (dec_or (dec_nat y x) (dec_contains ys x))

pub some_value : {X : Type 0} {x y : X} → Some x ≡ Some y → x ≡ y
some_value h = cc

pub none_value : (n : ℕ) → ¬ (None ≡ Some n)
none_value n h = cc

abbrev pub dec_constant : (o : Option ℕ) (n : ℕ) → Dec (o ≡ Some n)
dec_constant None n = inr (none_value n)
dec_constant (Some m) n = dec_map (λ e. ap Some e) (λ u h. u (some_value h)) (dec_nat m n)

abbrev pub dec_small : (o : Option ℕ) (high : ℕ) → Dec ((n : ℕ) × (o ≡ Some n) × (n ≤ high))
dec_small None high = inr (λ h. none_value h.0 h.1)
dec_small (Some m) high = dec_map (λ l. (m, refl, l)) (λ u h. u (subst (λ n. n ≤ high) (sym (some_value h.1)) h.2)) (dec_le m high)

-- ---- numbers below a bound

module _ (P : ℕ → Type 0) where
  pub below_none : (t : ℕ) → t < 0 → P t
  below_none t lt = absurd (omega arith)

  below_or_last : (t k : ℕ) → t < suc k → (t < k) ⊎ (t ≡ k)
  below_or_last t k h = grind arith

  pub below_more : (k : ℕ) → ((t : ℕ) → t < k → P t) → P k → (t : ℕ) → t < suc k → P t
  below_more k below here t lt =
      elim (below_or_last t k lt) [ inl less ↦ below t less | inr same ↦ subst P (sym same) here ]

  abbrev below_step : (k : ℕ) → Dec ((t : ℕ) → t < k → P t) → Dec (P k) → Dec ((t : ℕ) → t < suc k → P t)
  below_step k (inl below) (inl here) = inl (below_more k below here)
  below_step k (inr n) d = inr (λ h. n (λ t lt. h t (omega arith)))
  below_step k (inl below) (inr n) = inr (λ h. n (h k (omega arith)))

  abbrev pub dec_below : ((t : ℕ) → Dec (P t)) → (k : ℕ) → Dec ((t : ℕ) → t < k → P t)
  dec_below d zero = inl below_none
  dec_below d (suc k) = below_step k (dec_below d k) (d k)

-- ---- the first place at which a fact fails

abbrev pub HoldBelow : {X : Type 0} → (ℕ → X → Type 0) → List X → ℕ → Type 0
HoldBelow {X} P xs i = (j : ℕ) (m : X) → j < i → slice_get xs j ≡ Some m → P j m

abbrev pub FailsFirst : {X : Type 0} → (ℕ → X → Type 0) → List X → Type 0
FailsFirst {X} P xs = (i : ℕ) × (x : X) × (slice_get xs i ≡ Some x) × HoldBelow P xs i × ¬ P i x

pub hold_none : {X : Type 0} (P : ℕ → X → Type 0) (xs : List X) → HoldBelow P xs 0
hold_none P xs j m l e = absurd (omega arith)

pub hold_cons : {X : Type 0} (P : ℕ → X → Type 0) (x : X) (xs : List X) (n : ℕ) → P 0 x → HoldBelow (λ i. P (suc i)) xs n → HoldBelow P (x ∷ xs) (suc n)
hold_cons P x xs n p h zero m l e = subst (P 0) (some_value e) p
hold_cons P x xs n p h (suc j) m l e = h j m (omega arith) e

abbrev pub first_step : {X : Type 0} (P : ℕ → X → Type 0) (x : X) (xs : List X) → Dec (P 0 x) → HoldBelow (λ i. P (suc i)) xs (length xs) ⊎ FailsFirst (λ i. P (suc i)) xs → HoldBelow P (x ∷ xs) (suc (length xs)) ⊎ FailsFirst P (x ∷ xs)
first_step P x xs (inr n) rest = inr (0, x, refl, hold_none P (x ∷ xs), n)
first_step P x xs (inl p) (inl h) = inl (hold_cons P x xs (length xs) p h)
first_step P x xs (inl p) (inr f) = inr (suc f.0, f.1, f.2, hold_cons P x xs f.0 p f.3, f.4)

abbrev pub first : {X : Type 0} (P : ℕ → X → Type 0) → ((i : ℕ) (x : X) → Dec (P i x)) → (xs : List X) → HoldBelow P xs (length xs) ⊎ FailsFirst P xs
first P d [] = inl (hold_none P [])
first P d (x ∷ xs) = first_step P x xs (d 0 x) (first (λ i. P (suc i)) (λ i. d (suc i)) xs)
