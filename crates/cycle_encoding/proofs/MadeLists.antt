-- What holds of all in lists that are made by maps, flat maps, ranges and filters, and how many of them pass.
use Rattle.std.proofs.Common.{◌≡◌, ℕ, ◌+◌, ◌<◌, ◌≤◌, Bool, cond, List, [], ◌∷◌, ◌++◌, length, map, get_or, ap, ◌∙◌, subst, arith, inl, inr}
use Rattle.std.specs.List.{All, filter, flat_map, count_by, range_with_len}
use Rattle.std.proofs.lemmas.Bool.{cases_Bool}
use Rattle.std.proofs.lemmas.List.Sums.{sum_by-cons}
use Rattle.std.proofs.lemmas.List.Elements.{All-nil, All-cons, All-head, All-tail, All-append}
use Rattle.std.proofs.lemmas.List.FromFn.{length-range_with_len, get_or-range_with_len}

pub at_range : (P : ℕ → Type 0) (n : ℕ) → All P (range_with_len 0 n) → (i : ℕ) → i < n → P i
at_range P n h i lt =
    let l : i < length (range_with_len 0 n) = omega (arith, length-range_with_len 0 n) in
    let e : get_or (range_with_len 0 n) i 0 ≡ i = get_or-range_with_len 0 n i 0 lt ∙ (let z : 0 + i ≡ i = omega arith in z) in
    subst P e (h i 0 l)

module _ {A : Type 0} (P : A → Type 0) where
  pub All-left : (xs ys : List A) → All P (xs ++ ys) → All P xs
  All-left [] ys h = All-nil P
  All-left (x ∷ xs) ys h = All-cons P x xs (All-head P x (xs ++ ys) h) (All-left xs ys (All-tail P x (xs ++ ys) h))

  pub All-right : (xs ys : List A) → All P (xs ++ ys) → All P ys
  All-right [] ys h = h
  All-right (x ∷ xs) ys h = All-right xs ys (All-tail P x (xs ++ ys) h)

module _ {X A : Type 0} (P : A → Type 0) (f : X → List A) where
  pub All-from_flat : (xs : List X) → All P (flat_map f xs) → All (λ x. All P (f x)) xs
  All-from_flat [] h = All-nil (λ x. All P (f x))
  All-from_flat (x ∷ xs) h = All-cons (λ x. All P (f x)) x xs (All-left P (f x) (flat_map f xs) h) (All-from_flat xs (All-right P (f x) (flat_map f xs) h))

  pub All-to_flat : (xs : List X) → All (λ x. All P (f x)) xs → All P (flat_map f xs)
  All-to_flat [] h = All-nil P
  All-to_flat (x ∷ xs) h = All-append P (f x) (flat_map f xs) (All-head (λ x. All P (f x)) x xs h) (All-to_flat xs (All-tail (λ x. All P (f x)) x xs h))

module _ {X A : Type 0} (P : A → Type 0) (f : X → A) where
  pub All-unmap : (xs : List X) → All P (map f xs) → All (λ x. P (f x)) xs
  All-unmap [] h = All-nil (λ x. P (f x))
  All-unmap (x ∷ xs) h = All-cons (λ x. P (f x)) x xs (All-head P (f x) (map f xs) h) (All-unmap xs (All-tail P (f x) (map f xs) h))

-- no more pass of those that are kept than of all
pub count_less : {X : Type 0} (keep test : X → Bool) (xs : List X) → count_by test (filter keep xs) ≤ count_by test xs
count_less keep test [] = omega arith
count_less {X} keep test (x ∷ xs) =
    let a = sum_by-cons (λ x. cond {A = ℕ} (test x) 1 0) x xs in
    let r = count_less keep test xs in
    elim (cases_Bool (keep x)) [
      | inl t ↦
          (let e : filter keep (x ∷ xs) ≡ x ∷ filter keep xs = ap (λ b. cond b (x ∷ filter keep xs) (filter keep xs)) t in
          let b = ap (count_by test) e ∙ sum_by-cons (λ x. cond {A = ℕ} (test x) 1 0) x (filter keep xs) in
          omega arith)
      | inr f ↦
          (let e : filter keep (x ∷ xs) ≡ filter keep xs = ap (λ b. cond b (x ∷ filter keep xs) (filter keep xs)) f in
          let b = ap (count_by test) e in
          omega arith)
    ]
