-- Elements of lists for which something holds, and the first that passes a test.
use Rattle.std.proofs.Common.{◌≡◌, ℕ, zero, suc, ◌<◌, List, [], ◌∷◌, length, refl, sym, ◌∙◌, ap, subst, inl, inr, ◌⊎◌, arith, Bool, true, false, get_or, map, cond, Some, None}
use Rattle.std.specs.Prelude.{All, Any, Contains, find, ◌==◌}
use Rattle.std.proofs.lemmas.Bool.{false≢true}
use Rattle.std.proofs.lemmas.Bool.Decides.{eqb_tells}
use Rattle.std.proofs.lemmas.List.Elements.{All-nil, All-cons}
use Rattle.std.proofs.lemmas.Option.{same_Some, none-some}

pub same_number : (a b : ℕ) → (a == b) ≡ true → a ≡ b
same_number a b h = elim (eqb_tells a b) [ inl t ↦ t.1 | inr t ↦ absurd (false≢true (sym t.0 ∙ h)) ]

pub number_itself : (a : ℕ) → (a == a) ≡ true
number_itself a = elim (eqb_tells a a) [ inl t ↦ t.0 | inr t ↦ absurd (t.1 refl) ]

pub map_length : {X : Type 0} (f : X → ℕ) (xs : List X) → length (map f xs) ≡ length xs
map_length f [] = refl
map_length f (x ∷ xs) = ap suc (map_length f xs)

pub map_at : {X : Type 0} (f : X → ℕ) (xs : List X) (k : ℕ) (d : X) (e : ℕ) → k < length xs
    → get_or (map f xs) k e ≡ f (get_or xs k d)
map_at f [] k d e l = absurd (omega arith)
map_at f (x ∷ xs) zero d e l = refl
map_at f (x ∷ xs) (suc k) d e l = map_at f xs k d e (omega arith)

module _ {X : Type 0} (P : X → Type 0) where
  pub any_nil : ¬ Any P []
  any_nil h = let l : h.0 < 0 = h.2 in absurd (omega arith)

  pub any_here : (x : X) (xs : List X) → P x → Any P (x ∷ xs)
  any_here x xs p = (0, x, omega arith, refl, p)

  pub any_there : (x : X) (xs : List X) → Any P xs → Any P (x ∷ xs)
  any_there x xs h = (suc h.0, h.1, (let l = h.2 in omega arith), h.3, h.4)

  any_cases_at : (x : X) (xs : List X) (k : ℕ) (y : X) → k < suc (length xs) → get_or (x ∷ xs) k y ≡ y → P y
      → P x ⊎ Any P xs
  any_cases_at x xs zero y l e p = inl (subst P (sym e) p)
  any_cases_at x xs (suc k) y l e p = inr (k, y, omega arith, e, p)

  pub any_cases : (x : X) (xs : List X) → Any P (x ∷ xs) → P x ⊎ Any P xs
  any_cases x xs h = any_cases_at x xs h.0 h.1 h.2 h.3 h.4

  pub any_of : (xs : List X) (x : X) → Contains xs x → P x → Any P xs
  any_of xs x h p = (h.0, x, h.1, h.2, p)

-- what is true of all and of some is true of one
pub any_with : {X : Type 0} (P Q R : X → Type 0) (xs : List X) → All P xs → ((x : X) → P x → Q x → R x) → Any Q xs → Any R xs
any_with P Q R xs each f h = (h.0, h.1, h.2, h.3, f h.1 (subst P h.3 (each h.0 h.1 h.2)) h.4)

module _ {X : Type 0} (p : X → Bool) where
  found_step : (x : X) (xs : List X) (y : X) (b : Bool) → p x ≡ b → (find p xs ≡ Some y → Any (λ z. (z ≡ y) × (p z ≡ true)) xs)
      → cond b (Some x) (find p xs) ≡ Some y → Any (λ z. (z ≡ y) × (p z ≡ true)) (x ∷ xs)
  found_step x xs y true is rest e = any_here (λ z. (z ≡ y) × (p z ≡ true)) x xs (same_Some x y e, is)
  found_step x xs y false is rest e = any_there (λ z. (z ≡ y) × (p z ≡ true)) x xs (rest e)

  -- what is found is in the list, and passes
  pub found : (xs : List X) (y : X) → find p xs ≡ Some y → Any (λ z. (z ≡ y) × (p z ≡ true)) xs
  found [] y e = absurd (none-some y e)
  found (x ∷ xs) y e = found_step x xs y (p x) refl (found xs y) e

  none_step : (x : X) (xs : List X) (b : Bool) → p x ≡ b → (find p xs ≡ None → All (λ z. p z ≡ false) xs)
      → cond b (Some x) (find p xs) ≡ None → All (λ z. p z ≡ false) (x ∷ xs)
  none_step x xs true is rest e = absurd (none-some x (sym e))
  none_step x xs false is rest e = All-cons (λ z. p z ≡ false) x xs is (rest e)

  -- where nothing is found, none passes
  pub found_none : (xs : List X) → find p xs ≡ None → All (λ z. p z ≡ false) xs
  found_none [] e = All-nil (λ z. p z ≡ false)
  found_none (x ∷ xs) e = none_step x xs (p x) refl (found_none xs) e
