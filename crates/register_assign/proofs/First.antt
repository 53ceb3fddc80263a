-- The first of a list that passes a test.
use Rattle.std.proofs.Common.{◌≡◌, ℕ, zero, suc, ◌+◌, ◌<◌, List, [], ◌∷◌, refl, sym, ◌∙◌, ap, subst, arith, Bool, true, false, cond, Some}
use Rattle.std.specs.Prelude.{slice_get, count_by}
use Rattle.std.proofs.lemmas.Option.{same_Some}
use Rattle.std.proofs.lemmas.List.Sums.{sum_by-cons}

abbrev pub First : {X : Type 0} → (X → Bool) → List X → Type 0
First {X} p xs = (i : ℕ) × (x : X) × (slice_get xs i ≡ Some x) × (p x ≡ true) × ((j : ℕ) (y : X) → j < i → slice_get xs j ≡ Some y → p y ≡ false)

first_here : {X : Type 0} (p : X → Bool) (x : X) (xs : List X) → p x ≡ true → First p (x ∷ xs)
first_here p x xs t = (0, x, refl, t, λ j y lt e. absurd (omega arith))

first_later : {X : Type 0} (p : X → Bool) (x : X) (xs : List X) → p x ≡ false → First p xs → First p (x ∷ xs)
first_later {X} p x xs f r = (suc r.0, r.1, r.2, r.3, before)
  where
    before : (j : ℕ) (y : X) → j < suc r.0 → slice_get (x ∷ xs) j ≡ Some y → p y ≡ false
    before zero y lt e = ap p (sym (same_Some x y e)) ∙ f
    before (suc j) y lt e = r.4 j y (omega arith) e

first_step : {X : Type 0} (p : X → Bool) (x : X) (xs : List X) (b : Bool) → p x ≡ b → (0 < count_by p xs → First p xs) → 0 < cond b 1 0 + count_by p xs → First p (x ∷ xs)
first_step p x xs true t rest h = first_here p x xs t
first_step p x xs false t rest h = first_later p x xs t (rest (omega arith))

pub first_counted : {X : Type 0} (p : X → Bool) (xs : List X) → 0 < count_by p xs → First p xs
first_counted p [] h = absurd (omega arith)
first_counted p (x ∷ xs) h = first_step p x xs (p x) refl (first_counted p xs) (subst (λ n. 0 < n) (sum_by-cons (λ y. cond (p y) 1 0) x xs) h)
