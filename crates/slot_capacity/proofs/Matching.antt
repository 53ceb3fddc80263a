-- Lists of which each thing has a partner of its own in another list.
use Rattle.std.proofs.Common.{◌≡◌, ℕ, suc, ◌*◌, ◌≤◌, Bool, true, false, cond, List, [], ◌∷◌, length, get_or, map, refl, sym, ap, ◌∙◌, subst, arith, inl, inr, ◌⊎◌}
use Rattle.std.specs.Prelude.{Contains}
use Rattle.std.specs.List.{AllPairs, filter, flat_map}
use Rattle.std.proofs.lemmas.Bool.{cases_order}
use Rattle.std.proofs.lemmas.List.{get_or_default}
use Rattle.cycle_encoding.proofs.Counting.{sum-same}
use Rattle.cycle_encoding.proofs.Totals.{size-flat, sum-const}
use Rattle.cycle_encoding.proofs.Members.{NoTwice, either, filter-out, here, later, map-in, map-out, nothing}

module _ {Y : Type 0} where
  -- the list without one thing
  without : (ys : List Y) (x : Y) → Contains ys x
      → (zs : List Y) × (length ys ≡ suc (length zs)) × ((z : Y) → Contains ys z → (x ≡ z) ⊎ Contains zs z)
  without [] x h = absurd (nothing x h)
  without (y ∷ ys) x h = elim (either y x ys h) [
    | inl e ↦ (ys, refl, λ z c. elim (either y z ys c) [ inl f ↦ inl (sym e ∙ f) | inr d ↦ inr d ])
    | inr c ↦ (
        let r = without ys x c in (
          y ∷ r.0,
          ap suc r.1,
          λ z c. elim (either y z ys c) [
            | inl f ↦ inr (subst (λ w. Contains (y ∷ r.0) w) f (here y r.0))
            | inr d ↦ elim (r.2 z d) [ inl e ↦ inl e | inr q ↦ inr (later y z r.0 q) ]
          ],
        ))
  ]

module _ {X Y : Type 0} (R : X → Y → Type 0) (one : (x z : X) (y : Y) → R x y → R z y → x ≡ z) where
  -- where each thing, none of them twice, has a partner that is no other's, there are as many partners at least
  pub matched : (xs : List X) (ys : List Y) → NoTwice xs → ((x : X) → Contains xs x → (y : Y) × Contains ys y × R x y)
      → length xs ≤ length ys
  matched [] ys once partner = (let z : length {A = X} [] ≡ 0 = refl in omega (arith, z))
  matched (x ∷ xs) ys once partner =
      let p = partner x (here x xs) in
      let w = without ys p.0 p.1 in
      let size : length (x ∷ xs) ≡ suc (length xs) = refl in
      let rest : length xs ≤ length w.0 =
      matched xs w.0 once.1 (λ z c.
      let q = partner z (later x z xs c) in
      elim (w.2 q.0 q.1) [
        | inl e ↦ absurd (once.0 (subst (λ y. Contains xs y) (one z x q.0 q.2 (subst (λ y. R x y) e p.2)) c))
        | inr d ↦ (q.0, d, q.2)
      ]) in
      let long = w.1 in
      omega arith

-- lists of one length each
pub flat-length : {X A : Type 0} (f : X → List A) (n : ℕ) → ((x : X) → length (f x) ≡ n) → (xs : List X)
    → length (flat_map f xs) ≡ length xs * n
flat-length f n e xs =
    size-flat f xs ∙ sum-same (λ x. length (f x)) (λ x. n) xs e ∙ sum-const n xs

module _ {X A : Type 0} (f : X → A) where
  keep_front : (x : X) (ys : List X) (b : Bool) → (Contains (map f ys) (f x) → ⊥) → NoTwice (map f ys)
      → NoTwice (map f (cond b (x ∷ ys) ys))
  keep_front x ys true n h = (n, h)
  keep_front x ys false n h = h

  -- keys that stand once stand once where some things are left out
  pub keys-filter : (test : X → Bool) (xs : List X) → NoTwice (map f xs) → NoTwice (map f (filter test xs))
  keys-filter test [] h = tt
  keys-filter test (x ∷ xs) h =
      keep_front x (filter test xs) (test x)
      (λ c.
      let m = map-out f (filter test xs) (f x) c in
      h.0 (subst (λ a. Contains (map f xs) a) m.2 (map-in f xs m.0 (filter-out test xs m.0 m.1).0)))
      (keys-filter test xs h.1)

-- two places of a list at which a relation of no two things holds are one
pub one-place : {X : Type 0} (R : X → X → Type 0) (xs : List X) → AllPairs (λ x y. ¬ R x y) xs
    → (x y : X) → Contains xs x → Contains xs y → R x y → R y x → x ≡ y
one-place R xs apart x y hx hy r s = elim (cases_order hx.0 hy.0) [
  | inl e ↦ sym hx.2 ∙ get_or_default xs hx.0 x y hx.1 ∙ ap (λ i. get_or xs i y) e ∙ hy.2
  | inr (inl lt) ↦
      absurd (apart hx.0 hy.0 x lt hy.1
      (subst (λ z. R z (get_or xs hy.0 x)) (sym hx.2)
      (subst (λ z. R x z) (sym (get_or_default xs hy.0 x y hy.1 ∙ hy.2)) r)))
  | inr (inr lt) ↦
      absurd (apart hy.0 hx.0 x lt hx.1
      (subst (λ z. R z (get_or xs hx.0 x)) (sym (get_or_default xs hy.0 x y hy.1 ∙ hy.2))
      (subst (λ z. R y z) (sym hx.2) s)))
]
