-- Things of which no two are one are no more than those among which they are.
use Rattle.std.proofs.Common.{◌≡◌, suc, ◌≤◌, List, [], ◌∷◌, ◌++◌, length, ap, subst, ◌⊎◌, inl, inr, arith, length-append}
use Rattle.std.specs.Prelude.{AllPairs, Contains}
use Rattle.std.proofs.lemmas.List.Elements.{All-contains, Contains-append_cases, Contains-append_left, Contains-append_right}
use Rattle.cycle_encoding.proofs.Members.{either, here, later, nothing}

module _ {X : Type 0} where
  -- a list with a thing among it is what stands before it, it, and what stands behind it
  record IsSplitAt (x : X) (xs : List X) : Type 0 where
    front : List X
    back : List X
    whole : xs ≡ front ++ x ∷ back

  behind : (y x : X) (xs : List X) → IsSplitAt x xs → IsSplitAt x (y ∷ xs)
  behind y x xs s = record { front = y ∷ s.front; back = s.back; whole = ap (λ zs. y ∷ zs) s.whole }

  first : (y x : X) (xs : List X) → y ≡ x → IsSplitAt x (y ∷ xs)
  first y x xs e = record { front = []; back = xs; whole = ap (λ z. z ∷ xs) e }

  split : (x : X) (xs : List X) → Contains xs x → IsSplitAt x xs
  split x [] h = absurd (nothing x h)
  split x (y ∷ xs) h = elim (either y x xs h) [ inl e ↦ first y x xs e | inr t ↦ behind y x xs (split x xs t) ]

  -- another thing of the list is before it or behind it
  other_back : (x y : X) (front back : List X) → ¬ (x ≡ y) → (x ≡ y) ⊎ Contains back y → Contains (front ++ back) y
  other_back x y front back ne (inl e) = absurd (ne e)
  other_back x y front back ne (inr t) = Contains-append_right front back y t

  other : (x y : X) (front back : List X) → ¬ (x ≡ y) → Contains (front ++ x ∷ back) y → Contains (front ++ back) y
  other x y front back ne h =
      elim (Contains-append_cases front (x ∷ back) y h) [
        | inl f ↦ Contains-append_left front back y f
        | inr b ↦ other_back x y front back ne (either x y back b)
      ]

  pub within : (some all : List X) → AllPairs (λ x y. ¬ (x ≡ y)) some → ((x : X) → Contains some x → Contains all x)
      → length some ≤ length all
  within [] all apart among = omega arith
  within (x ∷ some) all apart among =
      let s = split x all (among x (here x some)) in
      let differs : (y : X) → Contains some y → ¬ (x ≡ y) =
      λ y h. All-contains (λ y. ¬ (x ≡ y)) some y (λ i d lt. apart 0 (suc i) d (omega arith) (omega (arith, lt))) h in
      let rest = within some (s.front ++ s.back)
      (λ i j d lt len. apart (suc i) (suc j) d (omega (arith, lt)) (omega (arith, len)))
      (λ y h. other x y s.front s.back (differs y h)
      (subst (λ zs. Contains zs y) s.whole (among y (later x y some h)))) in
      let whole = ap length s.whole in
      let with_it = length-append s.front (x ∷ s.back) in
      let without = length-append s.front s.back in
      omega (arith, rest, whole, with_it, without)
