-- How many of the first launches pass a test.
use Rattle.std.proofs.Common.{◌≡◌, ℕ, zero, suc, ◌+◌, ◌<◌, ◌≤◌, List, [], ◌∷◌, refl, ◌∙◌, ap, subst, arith, Bool, true, cond, take, Some}
use Rattle.std.specs.Prelude.{slice_get, count_by}
use Rattle.std.proofs.lemmas.List.Sums.{count_by_more_yes, sum_by-take-le}
use Rattle.std.proofs.lemmas.Option.{get_or_from_slice_get}
use Rattle.schedule_meaning.proofs.Rules.{in_list}

take_twice : {X : Type 0} (i j : ℕ) (xs : List X) → i ≤ j → take i (take j xs) ≡ take i xs
take_twice zero j xs h = refl
take_twice (suc i) zero xs h = absurd (omega arith)
take_twice (suc i) (suc j) [] h = refl
take_twice (suc i) (suc j) (x ∷ xs) h = ap (λ ys. x ∷ ys) (take_twice i j xs (omega arith))

module _ {X : Type 0} (p : X → Bool) (xs : List X) where
  pub count_grows : (i j : ℕ) → i ≤ j → count_by p (take i xs) ≤ count_by p (take j xs)
  count_grows i j h =
      subst (λ ys. count_by p ys ≤ count_by p (take j xs)) (take_twice i j xs h) (sum_by-take-le (λ x. cond (p x) 1 0) (take j xs) i)

  pub count_rises : (i j : ℕ) (x : X) → i < j → slice_get xs i ≡ Some x → p x ≡ true → count_by p (take i xs) < count_by p (take j xs)
  count_rises i j x h e t =
      let more : count_by p (take (i + 1) xs) ≡ count_by p (take i xs) + 1 = count_by_more_yes p xs i x (in_list xs i x e) (ap p (get_or_from_slice_get xs i x x e) ∙ t) in
      let grows : count_by p (take (i + 1) xs) ≤ count_by p (take j xs) = count_grows (i + 1) j (omega arith) in
      omega arith

  pub count_below : (i : ℕ) (x : X) → slice_get xs i ≡ Some x → p x ≡ true → count_by p (take i xs) < count_by p xs
  count_below i x e t =
      let more : count_by p (take (i + 1) xs) ≡ count_by p (take i xs) + 1 = count_by_more_yes p xs i x (in_list xs i x e) (ap p (get_or_from_slice_get xs i x x e) ∙ t) in
      let all : count_by p (take (i + 1) xs) ≤ count_by p xs = sum_by-take-le (λ x. cond (p x) 1 0) xs (i + 1) in
      omega arith

  -- two places that pass
  pub count_two : (i j : ℕ) (x y : X) → i < j → slice_get xs i ≡ Some x → slice_get xs j ≡ Some y → p x ≡ true → p y ≡ true → 2 ≤ count_by p xs
  count_two i j x y h ex ey tx ty =
      let one : count_by p (take i xs) < count_by p (take j xs) = count_rises i j x h ex tx in
      let two : count_by p (take j xs) < count_by p xs = count_below j y ey ty in
      omega arith
