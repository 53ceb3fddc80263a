-- What a search of a list finds.
use Rattle.std.proofs.Common.{◌≡◌, ◌≢◌, ℕ, zero, suc, ◌<◌, List, [], ◌∷◌, ◌++◌, map, length, get_or, filter, refl, sym, ◌∙◌, ap, subst, inl, inr, arith, Bool, true, false, Option, Some, None}
use Rattle.std.specs.Prelude.{All, AllPairs, Contains, IfSome, find, if◌then◌else◌}
use Rattle.std.specs.List.{AllZip}
use Rattle.std.proofs.lemmas.Bool.{cases_Bool, cases_lt, false≢true}
use Rattle.std.proofs.lemmas.List.{get_or_default}
use Rattle.std.proofs.lemmas.List.Elements.{All-head, All-tail}
use Rattle.std.proofs.lemmas.Option.{same_Some, none-some}

found_by : {X : Type 0} (P : X → Type 0) (b : Bool) (x : X) (o : Option X) → P x → IfSome o P → IfSome (if b then Some x else o) P
found_by P true x o h k = h
found_by P false x o h k = k

-- what holds of all items holds of the one that is found
pub found_is : {X : Type 0} (P : X → Type 0) (p : X → Bool) (xs : List X) → All P xs → IfSome (find p xs) P
found_is P p [] h = tt
found_is P p (x ∷ xs) h = found_by P (p x) x (find p xs) (All-head P x xs h) (found_is P p xs (All-tail P x xs h))

module _ {X : Type 0} (p : X → Bool) where
  find_here : (x : X) (xs : List X) → p x ≡ true → find p (x ∷ xs) ≡ Some x
  find_here x xs e = ap (λ b. if b then Some x else find p xs) e

  find_later : (x : X) (xs : List X) → p x ≡ false → find p (x ∷ xs) ≡ find p xs
  find_later x xs e = ap (λ b. if b then Some x else find p xs) e

  -- what is found passes, and is an item
  pub find_some : (xs : List X) (x : X) → find p xs ≡ Some x → (p x ≡ true) × Contains xs x
  find_some [] x e = absurd (none-some x e)
  find_some (y ∷ ys) x e = elim (cases_Bool (p y)) [
    | inl t ↦ (let same : y ≡ x = same_Some y x (sym (find_here y ys t) ∙ e) in (ap p (sym same) ∙ t, (0, omega arith, same)))
    | inr f ↦ (
        let rest = find_some ys x (sym (find_later y ys f) ∙ e) in
        let inside = rest.1.1 in
        (rest.0, (suc rest.1.0, omega (arith, inside), rest.1.2)))
  ]

  -- where none is found, none passes
  pub find_none : (xs : List X) (x : X) → find p xs ≡ None → Contains xs x → p x ≡ false
  find_none [] x e (k, inside, at) = absurd (omega (arith, inside))
  find_none (y ∷ ys) x e (zero, inside, at) = elim (cases_Bool (p y)) [
    | inl t ↦ absurd (none-some y (sym e ∙ find_here y ys t))
    | inr f ↦ ap p (sym at) ∙ f
  ]
  find_none (y ∷ ys) x e (suc k, inside, at) = elim (cases_Bool (p y)) [
    | inl t ↦ absurd (none-some y (sym e ∙ find_here y ys t))
    | inr f ↦ find_none ys x (sym (find_later y ys f) ∙ e) (k, omega (arith, inside), at)
  ]

-- ---- items that differ

module _ {X : Type 0} (R : X → X → Type 0) (xs : List X) (apart : AllPairs R xs) where
  -- two items of which neither stands so to the other are one
  pub one_item : (x y : X) → Contains xs x → Contains xs y → ¬ R x y → ¬ R y x → x ≡ y
  one_item x y (i, inside_i, at_i) (j, inside_j, at_j) never other =
      elim (cases_lt i j) [
        | inl less ↦ absurd (never (subst (R x) at_j' (subst (λ z. R z (get_or xs j x)) at_i (apart i j x less inside_j))))
        | inr ge ↦ elim (cases_lt j i) [
          | inl more ↦ absurd (other (subst (λ z. R z x) at_j' (subst (R (get_or xs j x)) at_i (apart j i x more inside_i))))
          | inr le ↦ (let same : i ≡ j = omega (arith, ge, le) in sym at_i ∙ ap (λ k. get_or xs k x) same ∙ at_j')
        ]
      ]
    where
      at_j' : get_or xs j x ≡ y
      at_j' = get_or_default xs j x y inside_j ∙ at_j

front : {X Y : Type 0} (f : X → Y) (xs : List X) (more : List Y) (k : ℕ) (d : X) (e : Y) → k < length xs → get_or (map f xs ++ more) k e ≡ f (get_or xs k d)
front f [] more k d e inside = absurd (omega (arith, inside))
front f (x ∷ xs) more zero d e inside = refl
front f (x ∷ xs) more (suc k) d e inside = front f xs more k d e (omega (arith, inside))

length_front : {X Y : Type 0} (f : X → Y) (xs : List X) (more : List Y) (k : ℕ) → k < length xs → k < length (map f xs ++ more)
length_front f [] more k inside = absurd (omega (arith, inside))
length_front f (x ∷ xs) more zero inside = omega arith
length_front f (x ∷ xs) more (suc k) inside = (let rest = length_front f xs more k (omega (arith, inside)) in omega (arith, rest))

-- what differs in a longer list differs in its front
pub front_apart : {X Y : Type 0} (f : X → Y) (xs : List X) (more : List Y) → AllPairs (λ a b. a ≢ b) (map f xs ++ more) → AllPairs (λ x y. f x ≢ f y) xs
front_apart f xs more apart i j d less inside same =
    apart i j (f d) less (length_front f xs more j inside)
    (front f xs more i d (f d) (omega (arith, less, inside)) ∙ same ∙ sym (front f xs more j d (f d) inside))

-- ---- items that are kept, and lists made from them

module _ {X Y : Type 0} (R : X → Y → Type 0) (q : X → Bool) (f : X → Y) where
  kept_step : (b : Bool) (x : X) (xs : List X) → AllZip R (if b then x ∷ xs else xs) (map f (if b then x ∷ xs else xs)) → AllZip R xs (map f xs)
  kept_step true x xs h = h.1
  kept_step false x xs h = h

  kept_first : (b : Bool) (x : X) (xs : List X) → AllZip R (if b then x ∷ xs else xs) (map f (if b then x ∷ xs else xs)) → b ≡ true → R x (f x)
  kept_first true x xs h t = h.0
  kept_first false x xs h t = absurd (false≢true t)

  -- what holds of all that are kept, each with what is made from it, holds of an item that is kept
  pub kept_item : (xs : List X) → AllZip R (filter q xs) (map f (filter q xs)) → (x : X) → Contains xs x → q x ≡ true → R x (f x)
  kept_item [] h x (k, inside, at) t = absurd (omega (arith, inside))
  kept_item (y ∷ ys) h x (zero, inside, at) t = subst (λ z. R z (f z)) at (kept_first (q y) y (filter q ys) h (ap q at ∙ t))
  kept_item (y ∷ ys) h x (suc k, inside, at) t = kept_item ys (kept_step (q y) y (filter q ys) h) x (k, omega (arith, inside), at) t
