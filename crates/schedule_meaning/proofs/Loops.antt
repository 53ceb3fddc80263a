-- A loop that tests each element, and stops at the first that fails, or at the first that passes.
use Rattle.std.proofs.Common.{◌≡◌, ◌↔◌, ℕ, ◌+◌, ◌<◌, ◌≤◌, List, [], ◌∷◌, ◌++◌, length, take, get_or, refl, sym, ◌∙◌, ap, subst, inl, inr, ◌⊎◌, arith, Bool, true, false, Option, Some, None}
use Rattle.std.specs.Prelude.{◌||◌, All, Any, IsTrue, IfSome, slice_get}
use Rattle.std.specs.Option.{option_map_or}
use Rattle.std.specs.List.{list_any}
use Rattle.std.proofs.lemmas.Bool.{false≢true}
use Rattle.std.proofs.lemmas.List.{take_more, take_all}
use Rattle.std.proofs.lemmas.List.Elements.{All-push}
use Rattle.std.proofs.lemmas.List.Folds.{list_any-append}
use Rattle.std.proofs.lemmas.Option.{get_or_from_slice_get, slice_get_cases}
use Rattle.schedule_meaning.proofs.Decide.{HoldBelow}
use Rattle.schedule_meaning.proofs.Pins.{any_at}
use Rattle.schedule_meaning.proofs.Rules.{in_list, at_each, all_at}

module _ {X : Type 0} (P : X → Type 0) where
  pub all_more : (xs : List X) (i : ℕ) (d : X) → i < length xs → All P (take i xs) → P (get_or xs i d) → All P (take (i + 1) xs)
  all_more xs i d lt h p = subst (All P) (sym (take_more xs i d lt)) (All-push P (take i xs) (get_or xs i d) h p)

  pub all_end : (xs : List X) (i : ℕ) → length xs ≤ i → All P (take i xs) → All P xs
  all_end xs i le h = subst (All P) (take_all i xs le) h

  -- the answer where all were passed
  pub all_pass : (xs : List X) (i : ℕ) → length xs ≤ i → All P (take i xs) → IsTrue true ↔ All P xs
  all_pass xs i le h = ((λ _. all_end xs i le h), λ _. refl)

  -- the same for `any`, and where one passes
  pub none_passes : (xs : List X) (i : ℕ) → length xs ≤ i → All (λ x. ¬ P x) (take i xs) → IsTrue false ↔ Any P xs
  none_passes xs i le h =
      let all : All (λ x. ¬ P x) xs = subst (All (λ x. ¬ P x)) (take_all i xs le) h in
      ((λ e. absurd (false≢true e)), λ a. absurd (subst (λ y. ¬ P y) a.3 (all a.0 a.1 a.2) a.4))

  pub one_passes : (xs : List X) (i : ℕ) (x : X) → i < length xs → x ≡ get_or xs i x → P x → IsTrue true ↔ Any P xs
  one_passes xs i x lt is p = ((λ _. (i, x, lt, sym is, p)), λ _. refl)

-- ---- a test of each place

module _ {X : Type 0} (p : X → Bool) (xs : List X) where
  pub any_by_place : (i : ℕ) → option_map_or p (slice_get xs i) false ≡ true → list_any p xs ≡ true
  any_by_place i h =
      elim ((slice_get_cases xs i).1) [
        | inl there ↦ any_at p xs i there.0 there.2 (sym (ap (λ o. option_map_or p o false) there.2) ∙ h)
        | inr past ↦ absurd (false≢true (sym (ap (λ o. option_map_or p o false) past.1) ∙ h))
      ]

  push_none : (ys : List X) (x : X) → list_any p ys ≡ false → p x ≡ false → list_any p (ys ++ x ∷ []) ≡ false
  push_none ys x h f =
      list_any-append p ys (x ∷ []) ∙ ap (λ b. b || (p x || false)) h ∙ ap (λ b. b || false) f

  pub none_by_place : (i : ℕ) → list_any p (take i xs) ≡ false → option_map_or p (slice_get xs i) false ≡ false
      → list_any p (take (i + 1) xs) ≡ false
  none_by_place i h f =
      elim ((slice_get_cases xs i).1) [
        | inl there ↦ (
            let at : get_or xs i there.0 ≡ there.0 = get_or_from_slice_get xs i there.0 there.0 there.2 in
            ap (list_any p) (take_more xs i there.0 there.1) ∙ push_none (take i xs) (get_or xs i there.0) h
            (ap p at ∙ sym (ap (λ o. option_map_or p o false) there.2) ∙ f))
        | inr past ↦ (
            let le : length xs ≤ i = past.0 in
            ap (list_any p) (take_all (i + 1) xs (omega arith) ∙ sym (take_all i xs le)) ∙ h)
      ]

  pub none_by_places : (i : ℕ) → length xs ≤ i → list_any p (take i xs) ≡ false → list_any p xs ≡ false
  none_by_places i le h = ap (list_any p) (sym (take_all i xs le)) ∙ h

-- ---- a fact of each place and what stands there

less_or_same : (a b : ℕ) → a < b + 1 → (a < b) ⊎ (a ≡ b)
less_or_same a b h = grind arith

module _ {X : Type 0} (P : ℕ → X → Type 0) (xs : List X) where
  abbrev pub HoldsAtEach : Type 0
  HoldsAtEach = (j : ℕ) (x : X) → slice_get xs j ≡ Some x → P j x

  pub place_more : (i : ℕ) → HoldBelow P xs i → IfSome (slice_get xs i) (P i) → HoldBelow P xs (i + 1)
  place_more i below here j x lt e =
      elim (less_or_same j i lt) [
        | inl less ↦ below j x less e
        | inr same ↦ subst (λ n. P n x) (sym same) (subst (λ o. IfSome o (P i)) (ap (slice_get xs) (sym same) ∙ e) here)
      ]

  pub place_end : (i : ℕ) → length xs ≤ i → HoldBelow P xs i → HoldsAtEach
  place_end i le below j x e = below j x (let lt : j < length xs = in_list xs j x e in omega arith) e

  here_by : (i : ℕ) → HoldsAtEach → (o : Option X) → slice_get xs i ≡ o → IfSome o (P i)
  here_by i h None e = tt
  here_by i h (Some x) e = h i x e

  pub place_fails : (i : ℕ) → ¬ IfSome (slice_get xs i) (P i) → ¬ HoldsAtEach
  place_fails i n h = n (here_by i h (slice_get xs i) refl)

  pub places_pass : (i : ℕ) → length xs ≤ i → HoldBelow P xs i → IsTrue true ↔ HoldsAtEach
  places_pass i le below = ((λ _. place_end i le below), λ _. refl)

  pub one_place_fails : (i : ℕ) → ¬ IfSome (slice_get xs i) (P i) → IsTrue false ↔ HoldsAtEach
  one_place_fails i n = ((λ e. absurd (false≢true e)), λ h. absurd (place_fails i n h))

-- the same of a fact that doesn't ask for the place
module _ {X : Type 0} (P : X → Type 0) (xs : List X) where
  pub all_places_pass : (i : ℕ) → length xs ≤ i → HoldBelow (λ j x. P x) xs i → IsTrue true ↔ All P xs
  all_places_pass i le below = ((λ _. all_at P xs (λ j x lt e. place_end (λ j x. P x) xs i le below j x e)), λ _. refl)

  pub one_of_all_fails : (i : ℕ) → ¬ IfSome (slice_get xs i) P → IsTrue false ↔ All P xs
  one_of_all_fails i n =
      ((λ e. absurd (false≢true e)), λ h. absurd (place_fails (λ j x. P x) xs i n (λ j x e. at_each P xs h j x e)))
