-- Lists by their last items.
use Rattle.std.proofs.Common.{◌≡◌, ℕ, zero, suc, ◌<◌, List, [], ◌∷◌, ◌++◌, length, get_or, refl, sym, ap, subst, ◌∙◌, append_assoc, arith, inl, inr, ◌⊎◌, Some}
use Rattle.std.specs.Prelude.{All, AllPairs, slice_get}
use Rattle.std.proofs.lemmas.List.{get_or_append_left, get_or_push, length_push}

pub snoc_view : {X : Type 0} (xs : List X) → (xs ≡ []) ⊎ ((ys : List X) × (y : X) × (xs ≡ ys ++ y ∷ []))
snoc_view [] = inl refl
snoc_view {X} (x ∷ xs) = more (snoc_view xs)
  where
    more : (xs ≡ []) ⊎ ((ys : List X) × (y : X) × (xs ≡ ys ++ y ∷ [])) → (x ∷ xs ≡ []) ⊎ ((ys : List X) × (y : X) × (x ∷ xs ≡ ys ++ y ∷ []))
    more (inl e) = inr ([], x, ap (λ l. x ∷ l) e)
    more (inr v) = inr (x ∷ v.0, v.1, ap (λ l. x ∷ l) v.2)

pub never_empty : {X : Type 0} (xs : List X) (x : X) → xs ++ x ∷ [] ≡ [] → ⊥
never_empty xs x e = (let n = length_push xs x in let z = ap length e in absurd (omega arith))

-- the last of three lists, put behind all
pub push_third : {X : Type 0} (a b c : List X) (x : X) → a ++ (b ++ (c ++ x ∷ [])) ≡ (a ++ (b ++ c)) ++ x ∷ []
push_third a b c x = ap (λ l. a ++ l) (sym (append_assoc b c (x ∷ []))) ∙ sym (append_assoc a (b ++ c) (x ∷ []))

pub all_front : {X : Type 0} (P : X → Type 0) (xs : List X) (x : X) → All P (xs ++ x ∷ []) → All P xs
all_front P xs x h k d lt =
    subst P (get_or_append_left xs (x ∷ []) d k lt) (h k d (let n = length_push xs x in omega arith))

pub all_last : {X : Type 0} (P : X → Type 0) (xs : List X) (x : X) → All P (xs ++ x ∷ []) → P x
all_last P xs x h = subst P (get_or_push xs x x (length xs) refl) (h (length xs) x (let n = length_push xs x in omega arith))

pub pairs_front : {X : Type 0} (R : X → X → Type 0) (xs : List X) (x : X) → AllPairs R (xs ++ x ∷ []) → AllPairs R xs
pairs_front R xs x h i j d less lt =
    let n = length_push xs x in
    let low : i < length xs = omega arith in
    subst (λ a. R a (get_or xs j d)) (get_or_append_left xs (x ∷ []) d i low)
    (subst (λ b. R (get_or (xs ++ x ∷ []) i d) b) (get_or_append_left xs (x ∷ []) d j lt) (h i j d less (omega arith)))

pub pairs_last : {X : Type 0} (R : X → X → Type 0) (xs : List X) (x : X) → AllPairs R (xs ++ x ∷ []) → All (λ y. R y x) xs
pairs_last R xs x h k d lt =
    let n = length_push xs x in
    subst (λ a. R a x) (get_or_append_left xs (x ∷ []) d k lt)
    (subst (λ b. R (get_or (xs ++ x ∷ []) k d) b) (get_or_push xs x d (length xs) refl) (h k (length xs) d lt (omega arith)))

pub get_front : {X : Type 0} (xs : List X) (y : X) (i : ℕ) (v : X) → slice_get xs i ≡ Some v → slice_get (xs ++ y ∷ []) i ≡ Some v
get_front [] y i v e = cc
get_front (x ∷ xs) y zero v e = e
get_front (x ∷ xs) y (suc i) v e = get_front xs y i v e

pub get_last : {X : Type 0} (xs : List X) (y : X) → slice_get (xs ++ y ∷ []) (length xs) ≡ Some y
get_last [] y = refl
get_last (x ∷ xs) y = get_last xs y

-- what is at a place of a list with one item more
pub get_pushed : {X : Type 0} (xs : List X) (y : X) (i : ℕ) (v : X) → slice_get (xs ++ y ∷ []) i ≡ Some v
    → (slice_get xs i ≡ Some v) ⊎ ((i ≡ length xs) × (v ≡ y))
get_pushed [] y zero v e = inr (refl, cc)
get_pushed [] y (suc i) v e = cc
get_pushed (x ∷ xs) y zero v e = inl e
get_pushed (x ∷ xs) y (suc i) v e = later (get_pushed xs y i v e)
  where
    later : (slice_get xs i ≡ Some v) ⊎ ((i ≡ length xs) × (v ≡ y)) → (slice_get xs i ≡ Some v) ⊎ ((suc i ≡ suc (length xs)) × (v ≡ y))
    later (inl f) = inl f
    later (inr w) = inr (ap suc w.0, w.1)
