-- Counting: no more things than places that they take, and what keeps a count small.
use Rattle.std.proofs.Common.{◌≡◌, ℕ, suc, ◌+◌, ◌<◌, ◌≤◌, Bool, true, cond, List, [], ◌∷◌, length, get_or, refl, ap, ◌∙◌, arith, inl, inr}
use Rattle.std.specs.Prelude.{◌&&◌}
use Rattle.std.specs.List.{All, list_any, count_by, sum_by}
use Rattle.std.proofs.lemmas.Bool.{cases_Bool, and_from}
use Rattle.std.proofs.lemmas.List.Sums.{sum_by-cons}
use Rattle.std.proofs.lemmas.List.Elements.{All-head, All-tail}
use Rattle.cycle_encoding.specs.Families.{any}
use Rattle.cycle_encoding.proofs.Tests.{one_at, some_of}

module _ {X : Type 0} where
  pub sum-same : (f g : X → ℕ) (xs : List X) → ((x : X) → f x ≡ g x) → sum_by f xs ≡ sum_by g xs
  sum-same f g [] h = refl
  sum-same f g (x ∷ xs) h =
      let a = sum_by-cons f x xs in
      let b = sum_by-cons g x xs in
      let e = h x in
      let r = sum-same f g xs h in
      omega arith

  pub sum-add : (f g : X → ℕ) (xs : List X) → sum_by (λ x. f x + g x) xs ≡ sum_by f xs + sum_by g xs
  sum-add f g [] = omega arith
  sum-add f g (x ∷ xs) =
      let a = sum_by-cons f x xs in
      let b = sum_by-cons g x xs in
      let c = sum_by-cons (λ x. f x + g x) x xs in
      let r = sum-add f g xs in
      omega arith

  pub count-any : (xs : List X) → count_by any xs ≡ length xs
  count-any [] = refl
  count-any (x ∷ xs) =
      let a = sum_by-cons (λ (y : X). cond {A = ℕ} (any y) 1 0) x xs in
      let r = count-any xs in
      let size : length (x ∷ xs) ≡ suc (length xs) = refl in
      omega arith

  -- none passes
  pub count-none : (test : X → Bool) (xs : List X) → ((i : ℕ) (d : X) → i < length xs → test (get_or xs i d) ≡ true → ⊥) → count_by test xs ≡ 0
  count-none test [] h = refl
  count-none test (x ∷ xs) h =
      let size : length (x ∷ xs) ≡ suc (length xs) = refl in
      let a = sum_by-cons (λ y. cond {A = ℕ} (test y) 1 0) x xs in
      let r = count-none test xs (λ i d lt t. h (suc i) d (omega arith) t) in
      elim (cases_Bool (test x)) [
        | inl t ↦ absurd (h 0 x (omega arith) t)
        | inr f ↦ (let z : cond {A = ℕ} (test x) 1 0 ≡ 0 = ap (λ b. cond {A = ℕ} b 1 0) f in omega arith)
      ]

  -- no two pass
  pub count-one : (test : X → Bool) (xs : List X) → ((i j : ℕ) (d : X) → i < j → j < length xs → test (get_or xs i d) ≡ true → test (get_or xs j d) ≡ true → ⊥) → count_by test xs ≤ 1
  count-one test [] h = (let z : count_by test [] ≡ 0 = refl in omega (arith, z))
  count-one test (x ∷ xs) h =
      let size : length (x ∷ xs) ≡ suc (length xs) = refl in
      let a = sum_by-cons (λ y. cond {A = ℕ} (test y) 1 0) x xs in
      elim (cases_Bool (test x)) [
        | inl t ↦
            (let z : cond {A = ℕ} (test x) 1 0 ≡ 1 = ap (λ b. cond {A = ℕ} b 1 0) t in
            let r = count-none test xs (λ i d lt u. h 0 (suc i) d (omega arith) (omega arith) t u) in
            omega arith)
        | inr f ↦
            (let z : cond {A = ℕ} (test x) 1 0 ≡ 0 = ap (λ b. cond {A = ℕ} b 1 0) f in
            let r = count-one test xs (λ i j d lt len p q. h (suc i) (suc j) d (omega arith) (omega arith) p q) in
            omega arith)
      ]

-- each thing that passes takes some place: there are no more of them than of what the places hold
module _ {X Y : Type 0} (test : X → Bool) (takes : Y → X → Bool) where
  takes_one : (x : X) (ys : List Y) → (test x ≡ true → list_any (λ y. takes y x) ys ≡ true) → cond {A = ℕ} (test x) 1 0 ≤ count_by (λ y. test x && takes y x) ys
  takes_one x ys h =
      elim (cases_Bool (test x)) [
        | inr f ↦ (let z : cond {A = ℕ} (test x) 1 0 ≡ 0 = ap (λ b. cond {A = ℕ} b 1 0) f in omega arith)
        | inl t ↦
            (let z : cond {A = ℕ} (test x) 1 0 ≡ 1 = ap (λ b. cond {A = ℕ} b 1 0) t in
            let s = some_of (λ y. takes y x) ys (h t) in
            let at : get_or ys s.1.0 s.0 ≡ s.0 = s.1.2 in
            let one = one_at (λ y. test x && takes y x) ys s.1.0 s.0 s.1.1 (and_from (test x) (takes (get_or ys s.1.0 s.0) x) t (ap (λ y. takes y x) at ∙ s.2)) in
            omega arith)
      ]

  pub count-by-places : (ys : List Y) (xs : List X) → All (λ x. test x ≡ true → list_any (λ y. takes y x) ys ≡ true) xs → count_by test xs ≤ sum_by (λ y. count_by (λ x. test x && takes y x) xs) ys
  count-by-places ys [] h = (let z : count_by test [] ≡ 0 = refl in omega (arith, z))
  count-by-places ys (x ∷ xs) h =
      let one = takes_one x ys (All-head (λ x. test x ≡ true → list_any (λ y. takes y x) ys ≡ true) x xs h) in
      let rest = count-by-places ys xs (All-tail (λ x. test x ≡ true → list_any (λ y. takes y x) ys ≡ true) x xs h) in
      let a = sum_by-cons (λ y. cond {A = ℕ} (test y) 1 0) x xs in
      let b = sum-same (λ y. count_by (λ x. test x && takes y x) (x ∷ xs)) (λ y. cond {A = ℕ} (test x && takes y x) 1 0 + count_by (λ x. test x && takes y x) xs) ys (λ y. sum_by-cons (λ x. cond {A = ℕ} (test x && takes y x) 1 0) x xs) in
      let c = sum-add (λ y. cond {A = ℕ} (test x && takes y x) 1 0) (λ y. count_by (λ x. test x && takes y x) xs) ys in
      omega arith
