-- Members of lists that are made by maps, filters and ranges, and lists that have nothing twice.
use Rattle.std.proofs.Common.{◌≡◌, ℕ, suc, zero, ◌+◌, ◌<◌, ◌≤◌, Bool, true, false, cond, List, [], ◌∷◌, ◌++◌, length, map, get_or, refl, sym, ap, ◌∙◌, subst, arith, inl, inr, ◌⊎◌, Some, None}
use Rattle.std.specs.Prelude.{Contains}
use Rattle.std.specs.List.{All, filter, flat_map, count_by, find, range_with_len}
use Rattle.std.proofs.lemmas.Bool.{false≢true, cases_order}
use Rattle.std.proofs.lemmas.List.{get_or_default}
use Rattle.std.proofs.lemmas.List.Elements.{Contains-append_left, Contains-append_right, Contains-append_cases, Contains-get_or}
use Rattle.cycle_encoding.proofs.Counting.{count-one}

module _ {X : Type 0} where
  pub here : (x : X) (xs : List X) → Contains (x ∷ xs) x
  here x xs = (0, omega arith, refl)

  pub later : (y x : X) (xs : List X) → Contains xs x → Contains (y ∷ xs) x
  later y x xs h = (suc h.0, (let l = h.1 in omega arith), h.2)

  pub either : (y x : X) (xs : List X) → Contains (y ∷ xs) x → (y ≡ x) ⊎ Contains xs x
  either y x xs (zero, lt, e) = inl e
  either y x xs (suc k, lt, e) = inr (k, (let l = lt in omega arith), e)

  pub nothing : (x : X) → Contains [] x → ⊥
  nothing x (k, lt, e) = (let z : length {A = X} [] ≡ 0 = refl in absurd (omega (arith, z)))

  pub All-from_members : (P : X → Type 0) (xs : List X) → ((x : X) → Contains xs x → P x) → All P xs
  All-from_members P xs h i d lt = h (get_or xs i d) (Contains-get_or xs i d lt)

  -- a filter
  filter_front : (x y : X) (ys : List X) (b : Bool) → b ≡ true ⊎ Contains ys y → Contains ys y → Contains (cond b (x ∷ ys) ys) y
  filter_front x y ys true o h = later x y ys h
  filter_front x y ys false o h = h

  filter_here : (x y : X) (ys : List X) (b : Bool) → b ≡ true → x ≡ y → Contains (cond b (x ∷ ys) ys) y
  filter_here x y ys true e p = subst (λ z. Contains (x ∷ ys) z) p (here x ys)
  filter_here x y ys false e p = absurd (false≢true e)

  filter_which : (x y : X) (ys : List X) (b : Bool) → Contains (cond b (x ∷ ys) ys) y → ((b ≡ true) × (x ≡ y)) ⊎ Contains ys y
  filter_which x y ys true h = elim (either x y ys h) [ inl e ↦ inl (refl, e) | inr c ↦ inr c ]
  filter_which x y ys false h = inr h

  pub filter-in : (test : X → Bool) (xs : List X) (y : X) → Contains xs y → test y ≡ true → Contains (filter test xs) y
  filter-in test [] y h t = absurd (nothing y h)
  filter-in test (x ∷ xs) y h t =
      elim (either x y xs h) [
        | inl e ↦ filter_here x y (filter test xs) (test x) (ap test e ∙ t) e
        | inr c ↦ (let r = filter-in test xs y c t in filter_front x y (filter test xs) (test x) (inr r) r)
      ]

  pub filter-out : (test : X → Bool) (xs : List X) (y : X) → Contains (filter test xs) y → Contains xs y × (test y ≡ true)
  filter-out test [] y h = absurd (nothing y h)
  filter-out test (x ∷ xs) y h =
      elim (filter_which x y (filter test xs) (test x) h) [
        | inl p ↦ (subst (λ z. Contains (x ∷ xs) z) p.1 (here x xs), ap test (sym p.1) ∙ p.0)
        | inr c ↦ (let r = filter-out test xs y c in (later x y xs r.0, r.1))
      ]

  find_step : (test : X → Bool) (x y : X) (xs : List X) (b : Bool) → test x ≡ b → cond b (Some x) (find test xs) ≡ Some y → (find test xs ≡ Some y → Contains xs y × (test y ≡ true)) → Contains (x ∷ xs) y × (test y ≡ true)
  find_step test x y xs true t e ih =
      let same : x ≡ y = cc in
      (subst (λ z. Contains (x ∷ xs) z) same (here x xs), ap test (sym same) ∙ t)
  find_step test x y xs false t e ih = (let r = ih e in (later x y xs r.0, r.1))

  pub find-out : (test : X → Bool) (xs : List X) (y : X) → find test xs ≡ Some y → Contains xs y × (test y ≡ true)
  find-out test [] y e = (let n : None ≡ Some y = e in absurd cc)
  find-out test (x ∷ xs) y e = find_step test x y xs (test x) refl e (find-out test xs y)

module _ {X A : Type 0} where
  pub map-in : (f : X → A) (xs : List X) (x : X) → Contains xs x → Contains (map f xs) (f x)
  map-in f [] x h = absurd (nothing x h)
  map-in f (y ∷ xs) x h =
      elim (either y x xs h) [
        | inl e ↦ subst (λ z. Contains (f y ∷ map f xs) z) (ap f e) (here (f y) (map f xs))
        | inr c ↦ later (f y) (f x) (map f xs) (map-in f xs x c)
      ]

  pub map-out : (f : X → A) (xs : List X) (a : A) → Contains (map f xs) a → (x : X) × Contains xs x × (f x ≡ a)
  map-out f [] a h = absurd (nothing a h)
  map-out f (y ∷ xs) a h =
      elim (either (f y) a (map f xs) h) [
        | inl e ↦ (y, here y xs, e)
        | inr c ↦ (let r = map-out f xs a c in (r.0, later y r.0 xs r.1, r.2))
      ]

  pub flat-in : (f : X → List A) (xs : List X) (x : X) (a : A) → Contains xs x → Contains (f x) a → Contains (flat_map f xs) a
  flat-in f [] x a h c = absurd (nothing x h)
  flat-in f (y ∷ xs) x a h c =
      elim (either y x xs h) [
        | inl e ↦ Contains-append_left (f y) (flat_map f xs) a (subst (λ z. Contains (f z) a) (sym e) c)
        | inr r ↦ Contains-append_right (f y) (flat_map f xs) a (flat-in f xs x a r c)
      ]

  pub flat-out : (f : X → List A) (xs : List X) (a : A) → Contains (flat_map f xs) a → (x : X) × Contains xs x × Contains (f x) a
  flat-out f [] a h = absurd (nothing a h)
  flat-out f (y ∷ xs) a h =
      elim (Contains-append_cases (f y) (flat_map f xs) a h) [
        | inl c ↦ (y, here y xs, c)
        | inr c ↦ (let r = flat-out f xs a c in (r.0, later y r.0 xs r.1, r.2))
      ]

pub range-in : (a n i : ℕ) → a ≤ i → i < a + n → Contains (range_with_len a n) i
range-in a zero i le lt = absurd (omega arith)
range-in a (suc n) i le lt =
    elim (cases_order a i) [
      | inl e ↦ subst (λ z. Contains (a ∷ range_with_len (a + 1) n) z) e (here a (range_with_len (a + 1) n))
      | inr (inl b) ↦ later a i (range_with_len (a + 1) n) (range-in (a + 1) n i (omega arith) (omega arith))
      | inr (inr b) ↦ absurd (omega arith)
    ]

pub range-out : (a n i : ℕ) → Contains (range_with_len a n) i → (a ≤ i) × (i < a + n)
range-out a zero i h = absurd (nothing i h)
range-out a (suc n) i h =
    elim (either a i (range_with_len (a + 1) n) h) [
      | inl e ↦ (omega arith, omega arith)
      | inr c ↦ (let r = range-out (a + 1) n i c in let p = r.0 in let q = r.1 in (omega arith, omega arith))
    ]

-- ---- nothing twice

abbrev pub NoTwice : {X : Type 0} → List X → Type 0
NoTwice [] = Unit {0}
NoTwice (x ∷ xs) = (Contains xs x → ⊥) × NoTwice xs

module _ {X : Type 0} where
  pub twice : (xs : List X) → NoTwice xs → (i j : ℕ) (d : X) → i < j → j < length xs → get_or xs i d ≡ get_or xs j d → ⊥
  twice [] h i j d lt l e = (let z : length {A = X} [] ≡ 0 = refl in absurd (omega (arith, z)))
  twice (x ∷ xs) h zero zero d lt l e = absurd (omega arith)
  twice (x ∷ xs) h (suc i) zero d lt l e = absurd (omega arith)
  twice (x ∷ xs) h zero (suc j) d lt l e =
      let len : j < length xs = omega arith in
      h.0 (subst (λ z. Contains xs z) (sym e) (Contains-get_or xs j d len))
  twice (x ∷ xs) h (suc i) (suc j) d lt l e = twice xs h.1 i j d (omega arith) (omega arith) e

  pub append-once : (xs ys : List X) → NoTwice xs → NoTwice ys → ((z : X) → Contains xs z → Contains ys z → ⊥) → NoTwice (xs ++ ys)
  append-once [] ys p q h = q
  append-once (x ∷ xs) ys p q h = (
    (λ c. elim (Contains-append_cases xs ys x c) [ inl a ↦ p.0 a | inr b ↦ h x (here x xs) b ]),
    append-once xs ys p.1 q (λ z a b. h z (later x z xs a) b),
  )

  once_front : (x : X) (ys : List X) (b : Bool) → (Contains ys x → ⊥) → NoTwice ys → NoTwice (cond b (x ∷ ys) ys)
  once_front x ys true n h = (n, h)
  once_front x ys false n h = h

  pub filter-once : (test : X → Bool) (xs : List X) → NoTwice xs → NoTwice (filter test xs)
  filter-once test [] h = tt
  filter-once test (x ∷ xs) h = once_front x (filter test xs) (test x) (λ c. h.0 (filter-out test xs x c).0) (filter-once test xs h.1)

module _ {X A : Type 0} (key : A → X) where
  pub map-once : (f : X → A) → ((x : X) → key (f x) ≡ x) → (xs : List X) → NoTwice xs → NoTwice (map f xs)
  map-once f k [] h = tt
  map-once f k (x ∷ xs) h = (
    (λ c. let r = map-out f xs (f x) c in h.0 (subst (λ z. Contains xs z) (sym (k r.0) ∙ ap key r.2 ∙ k x) r.1)),
    map-once f k xs h.1,
  )

  pub flat-once : (f : X → List A) → ((x : X) (a : A) → Contains (f x) a → key a ≡ x) → ((x : X) → NoTwice (f x)) → (xs : List X) → NoTwice xs → NoTwice (flat_map f xs)
  flat-once f k each [] h = tt
  flat-once f k each (x ∷ xs) h =
      append-once (f x) (flat_map f xs) (each x) (flat-once f k each xs h.1)
      (λ z a b. let r = flat-out f xs z b in h.0 (subst (λ y. Contains xs y) (sym (k r.0 z r.2) ∙ k x z a) r.1))

pub range-once : (a n : ℕ) → NoTwice (range_with_len a n)
range-once a zero = tt
range-once a (suc n) = ((λ c. let r = (range-out (a + 1) n a c).0 in omega arith), range-once (a + 1) n)

-- no two places of the larger list pass, and nothing is twice in the smaller: at most one of it passes
pub few-among : {X : Type 0} (test : X → Bool) (xs ys : List X) → NoTwice xs → ((x : X) → Contains xs x → Contains ys x) → ((i j : ℕ) (d : X) → i < j → j < length ys → test (get_or ys i d) ≡ true → test (get_or ys j d) ≡ true → ⊥) → count_by test xs ≤ 1
few-among {X} test xs ys once sub alone =
    count-one test xs (λ i j d lt len p q.
    let a = get_or xs i d in
    let b = get_or xs j d in
    let li : i < length xs = omega arith in
    let ca = sub a (Contains-get_or xs i d li) in
    let cb = sub b (Contains-get_or xs j d len) in
    let at_a : (e : X) → get_or ys ca.0 e ≡ a = λ e. get_or_default ys ca.0 e a ca.1 ∙ ca.2 in
    let at_b : (e : X) → get_or ys cb.0 e ≡ b = λ e. get_or_default ys cb.0 e b cb.1 ∙ cb.2 in
    elim (cases_order ca.0 cb.0) [
      | inl e ↦ twice xs once i j d lt len (sym (at_a d) ∙ ap (λ k. get_or ys k d) e ∙ at_b d)
      | inr (inl l) ↦ alone ca.0 cb.0 d l cb.1 (ap test (at_a d) ∙ p) (ap test (at_b d) ∙ q)
      | inr (inr l) ↦ alone cb.0 ca.0 d l ca.1 (ap test (at_b d) ∙ q) (ap test (at_a d) ∙ p)
    ])
