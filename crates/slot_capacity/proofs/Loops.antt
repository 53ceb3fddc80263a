-- Steps of loops that push what passes, or keep the least and the greatest.
use Rattle.std.proofs.Common.{◌≡◌, ℕ, zero, suc, ◌+◌, ◌-◌, ◌<◌, ◌≤◌, Bool, true, false, cond, List, [], ◌∷◌, ◌++◌, length, get_or, map, take, refl, sym, ap, ◌∙◌, arith}
use Rattle.std.specs.Prelude.{Contains}
use Rattle.std.specs.List.{filter, range_with_len}
use Rattle.std.proofs.lemmas.List.{append-nil, map-append, take_all, take_more}
use Rattle.std.proofs.lemmas.List.Elements.{filter-append, filter_more}
use Rattle.cycle_encoding.proofs.Members.{here, later}
use Rattle.cycle_encoding.proofs.Rows.{range_more}

module _ {X : Type 0} (test : X → Bool) where
  -- nothing passes
  pub none-pass : (xs : List X) → ((x : X) → Contains xs x → test x ≡ false) → filter test xs ≡ []
  none-pass [] h = refl
  none-pass (x ∷ xs) h =
      ap (λ b. cond b (x ∷ filter test xs) (filter test xs)) (h x (here x xs))
      ∙ none-pass xs (λ y c. h y (later x y xs c))

module _ {X : Type 0} (test : X → Bool) (xs : List X) (i : ℕ) (d : X) (mid new : List X) (lt : i < length xs)
    (is : mid ≡ filter test (take i xs)) where
  filter_by : (b : Bool) → test (get_or xs i d) ≡ b → new ≡ cond b (mid ++ get_or xs i d ∷ []) mid
      → new ≡ filter test (take (i + 1) xs)
  filter_by true e h =
      h ∙ ap (λ (ys : List X). ys ++ get_or xs i d ∷ []) is
      ∙ sym (ap (filter test) (take_more xs i d lt) ∙ filter-append test (take i xs) (get_or xs i d ∷ [])
      ∙ ap (λ b. filter test (take i xs) ++ cond b (get_or xs i d ∷ []) []) e)
  filter_by false e h =
      h ∙ is
      ∙ sym (ap (filter test) (take_more xs i d lt) ∙ filter-append test (take i xs) (get_or xs i d ∷ [])
      ∙ ap (λ b. filter test (take i xs) ++ cond b (get_or xs i d ∷ []) []) e
      ∙ append-nil (filter test (take i xs)))

  -- one thing more, if it passes
  pub filter-step : new ≡ cond (test (get_or xs i d)) (mid ++ get_or xs i d ∷ []) mid
      → new ≡ filter test (take (i + 1) xs)
  filter-step h = filter_by (test (get_or xs i d)) refl h

pub filter-end : {X : Type 0} (test : X → Bool) (xs : List X) (i : ℕ) (mid : List X) → length xs ≤ i
    → mid ≡ filter test (take i xs) → mid ≡ filter test xs
filter-end test xs i mid le is = is ∙ ap (filter test) (take_all i xs le)

-- ---- over a range

module _ (test : ℕ → Bool) (n : ℕ) (mid new : List ℕ) (is : mid ≡ filter test (range_with_len 0 n)) where
  range_by : (b : Bool) → test n ≡ b → new ≡ cond b (mid ++ n ∷ []) mid → new ≡ filter test (range_with_len 0 (n + 1))
  range_by true e h =
      h ∙ ap (λ (ys : List ℕ). ys ++ n ∷ []) is
      ∙ sym (ap (filter test) (range_more n) ∙ filter-append test (range_with_len 0 n) (n ∷ [])
      ∙ ap (λ b. filter test (range_with_len 0 n) ++ cond b (n ∷ []) []) e)
  range_by false e h =
      h ∙ is
      ∙ sym (ap (filter test) (range_more n) ∙ filter-append test (range_with_len 0 n) (n ∷ [])
      ∙ ap (λ b. filter test (range_with_len 0 n) ++ cond b (n ∷ []) []) e
      ∙ append-nil (filter test (range_with_len 0 n)))

  -- one number more, if it passes
  pub range-step : new ≡ cond (test n) (mid ++ n ∷ []) mid → new ≡ filter test (range_with_len 0 (n + 1))
  range-step h = range_by (test n) refl h

-- ---- steps that change nothing

module _ {X : Type 0} (steps : ℕ → X) (next : X → X) (are : (n : ℕ) → steps (suc n) ≡ next (steps n)) where
  stuck_after : (n m : ℕ) → next (steps n) ≡ steps n → steps (m + n) ≡ steps n
  stuck_after n zero e = ap steps (let z : 0 + n ≡ n = omega arith in z)
  stuck_after n (suc m) e =
      ap steps (let s : suc m + n ≡ suc (m + n) = omega arith in s) ∙ are (m + n) ∙ ap next (stuck_after n m e) ∙ e

  -- where one step changes nothing, no later one does
  pub stuck : (n m : ℕ) → n ≤ m → next (steps n) ≡ steps n → steps n ≡ steps m
  stuck n m le e = sym (stuck_after n (m - n) e) ∙ ap steps (let same : m - n + n ≡ m = omega arith in same)

-- ---- what is pushed if it passes

module _ {X : Type 0} (test : X → Bool) (xs : List X) (i : ℕ) (d : X) (lt : i < length xs) where
  pub filter-pushed : (mid new : List X) → mid ≡ filter test (take i xs)
      → new ≡ mid ++ cond (test (get_or xs i d)) (get_or xs i d ∷ []) [] → new ≡ filter test (take (i + 1) xs)
  filter-pushed mid new is h =
      h ∙ ap (λ (ys : List X). ys ++ cond (test (get_or xs i d)) (get_or xs i d ∷ []) []) is
      ∙ sym (filter_more test xs i d lt)

  -- and what is made of it
  pub mapped-pushed : {Y : Type 0} (f : X → Y) (mid new : List Y) → mid ≡ map f (filter test (take i xs))
      → new ≡ mid ++ cond (test (get_or xs i d)) (f (get_or xs i d) ∷ []) []
      → new ≡ map f (filter test (take (i + 1) xs))
  mapped-pushed {Y} f mid new is h =
      let x = get_or xs i d in
      h ∙ ap (λ (ys : List Y). ys ++ cond (test x) (f x ∷ []) []) is
      ∙ sym (ap (map f) (filter_more test xs i d lt)
      ∙ map-append f (filter test (take i xs)) (cond (test x) (x ∷ []) [])
      ∙ ap (λ (ys : List Y). map f (filter test (take i xs)) ++ ys) (one (test x)))
    where
      one : (b : Bool)
          → map f (cond b (get_or xs i d ∷ []) []) ≡ cond b (f (get_or xs i d) ∷ []) []
      one true = refl
      one false = refl
