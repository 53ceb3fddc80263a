-- The counts found row by row are those of the lists.
use Rattle.std.proofs.Common.{◌≡◌, ℕ, suc, ◌+◌, ◌-◌, ◌*◌, ◌<◌, ◌≤◌, Bool, true, false, cond, List, [], ◌∷◌, length, map, get_or, refl, sym, ap, ◌∙◌, subst, arith, inl, inr, length-append}
use Rattle.std.specs.Prelude.{◌||◌, ◌&&◌, ◌==◌, nat_le, nat_lt, Contains}
use Rattle.std.specs.List.{filter, flat_map, list_any, count_by, sum_by, range_with_len}
use Rattle.std.proofs.lemmas.Bool.{cases_Bool, cases_lt, eqb-true, eq-eqb, lt-ltb, le-ltb, le-leb, lt-leb, and_left, and_right, and_from, false_from_ne_true}
use Rattle.std.proofs.lemmas.List.Sums.{sum_by-cons, sum_by-append, length-filter}
use Rattle.cnf_core.specs.declared.literal.Lit.{Lit}
use Rattle.cycle_encoding.specs.Shapes.{numbered, positive, negative, vars_of, implied}
use Rattle.cycle_encoding.specs.Counts.{one_if}
use Rattle.cycle_encoding.proofs.Counting.{sum-same, count-none}
use Rattle.cycle_encoding.proofs.Members.{NoTwice, range-in, range-out, range-once}
use Rattle.cycle_encoding.proofs.Tests.{some_of, some_in}
use Rattle.std.proofs.lemmas.List.Elements.{Contains-get_or}

-- ---- sums

module _ {X : Type 0} where
  pub sum-flat : {A : Type 0} (f : A → ℕ) (h : X → List A) (xs : List X) → sum_by f (flat_map h xs) ≡ sum_by (λ x. sum_by f (h x)) xs
  sum-flat f h [] = refl
  sum-flat f h (x ∷ xs) = sum_by-append f (h x) (flat_map h xs) ∙ ap (λ n. sum_by f (h x) + n) (sum-flat f h xs) ∙ sym (sum_by-cons (λ x. sum_by f (h x)) x xs)

  pub sum-map : {A : Type 0} (f : A → ℕ) (h : X → A) (xs : List X) → sum_by f (map h xs) ≡ sum_by (λ x. f (h x)) xs
  sum-map f h [] = refl
  sum-map f h (x ∷ xs) = sum_by-cons f (h x) (map h xs) ∙ ap (λ n. f (h x) + n) (sum-map f h xs) ∙ sym (sum_by-cons (λ x. f (h x)) x xs)

  pub sum-const : (c : ℕ) (xs : List X) → sum_by (λ x. c) xs ≡ length xs * c
  sum-const c [] = (let z : length {A = X} [] * c ≡ 0 = omega arith in sym z)
  sum-const c (x ∷ xs) =
      let a = sum_by-cons (λ (x : X). c) x xs in
      let b = sum-const c xs in
      let s : length (x ∷ xs) ≡ length xs + 1 = (let t : length (x ∷ xs) ≡ suc (length xs) = refl in omega (arith, t)) in
      let m : (length xs + 1) * c ≡ length xs * c + c = omega arith in
      a ∙ ap (λ n. c + n) b ∙ (let e : c + length xs * c ≡ (length xs + 1) * c = omega arith in e) ∙ ap (λ n. n * c) (sym s)

  pub sum-times : (f : X → ℕ) (c : ℕ) (xs : List X) → sum_by (λ x. f x * c) xs ≡ sum_by f xs * c
  sum-times f c [] = (let z : 0 * c ≡ 0 = omega arith in sym z)
  sum-times f c (x ∷ xs) =
      let a = sum_by-cons (λ x. f x * c) x xs in
      let b = sum_by-cons f x xs in
      let r = sum-times f c xs in
      let m : (f x + sum_by f xs) * c ≡ f x * c + sum_by f xs * c = omega arith in
      a ∙ ap (λ n. f x * c + n) r ∙ sym m ∙ ap (λ n. n * c) (sym b)

  pub size-ones : (xs : List X) → length xs ≡ sum_by (λ x. 1) xs
  size-ones xs = (let a = sum-const 1 xs in let b : length xs * 1 ≡ length xs = omega arith in sym b ∙ sym a)

-- ---- sizes of the shapes

size-map : {X A : Type 0} (f : X → A) (xs : List X) → length (map f xs) ≡ length xs
size-map f [] = refl
size-map f (x ∷ xs) = ap suc (size-map f xs)

pub size-flat : {X A : Type 0} (f : X → List A) (xs : List X) → length (flat_map f xs) ≡ sum_by (λ x. length (f x)) xs
size-flat f [] = refl
size-flat f (x ∷ xs) = length-append (f x) (flat_map f xs) ∙ ap (λ n. length (f x) + n) (size-flat f xs) ∙ sym (sum_by-cons (λ x. length (f x)) x xs)

pub sum-numbered : {X : Type 0} (f : X → ℕ) (n : ℕ) (xs : List X) → sum_by (λ (p : ℕ × X). f p.1) (numbered n xs) ≡ sum_by f xs
sum-numbered f n [] = refl
sum-numbered {X} f n (x ∷ xs) = sum_by-cons (λ (p : ℕ × X). f p.1) (n + 1, x) (numbered (n + 1) xs) ∙ ap (λ m. f x + m) (sum-numbered f (n + 1) xs) ∙ sym (sum_by-cons f x xs)

pub size-vars : {X : Type 0} (test : X → Bool) (n : ℕ) (xs : List X) → length (vars_of test (numbered n xs)) ≡ count_by test xs
size-vars {X} test n xs = size-map (λ (p : ℕ × X). positive p.0) (filter (λ p. test p.1) (numbered n xs)) ∙ length-filter (λ (p : ℕ × X). test p.1) (numbered n xs) ∙ sum-numbered (λ x. cond {A = ℕ} (test x) 1 0) n xs

pub size-implied : {X : Type 0} (f : X → List (List Lit)) (n : ℕ) (xs : List X) → length (implied (numbered n xs) f) ≡ sum_by (λ x. length (f x)) xs
size-implied {X} f n xs =
    size-flat (λ (p : ℕ × X). map (λ c. negative p.0 ∷ c) (f p.1)) (numbered n xs)
    ∙ sum-same (λ (p : ℕ × X). length (map (λ c. negative p.0 ∷ c) (f p.1))) (λ p. length (f p.1)) (numbered n xs) (λ p. size-map (λ c. negative p.0 ∷ c) (f p.1))
    ∙ sum-numbered (λ x. length (f x)) n xs

-- one of a list without repetition
pub count-this : (xs : List ℕ) (y : ℕ) → NoTwice xs → count_by (λ x. x == y) xs ≡ one_if (list_any (λ x. x == y) xs)
count-this [] y h = refl
count-this (x ∷ xs) y h =
    elim (cases_Bool (x == y)) [
      | inr f ↦
          sum_by-cons (λ x. cond {A = ℕ} (x == y) 1 0) x xs ∙ ap (λ b. cond {A = ℕ} b 1 0 + count_by (λ x. x == y) xs) f
          ∙ (let z : 0 + count_by (λ x. x == y) xs ≡ count_by (λ x. x == y) xs = omega arith in z) ∙ count-this xs y h.1
          ∙ ap (λ b. one_if (b || list_any (λ x. x == y) xs)) (sym f)
      | inl t ↦
          (let none' : count_by (λ x. x == y) xs ≡ 0 = count-none (λ x. x == y) xs (λ i d lt e. h.0 (subst (λ z. Contains xs z) (eqb-true (get_or xs i d) y e ∙ sym (eqb-true x y t)) (Contains-get_or xs i d lt))) in
          sum_by-cons (λ x. cond {A = ℕ} (x == y) 1 0) x xs ∙ ap (λ b. cond {A = ℕ} b 1 0 + count_by (λ x. x == y) xs) t ∙ ap (λ n. 1 + n) none'
          ∙ ap (λ b. one_if (b || list_any (λ x. x == y) xs)) (sym t))
    ]

none-in : (a n y : ℕ) → (a ≤ y → y < n → ⊥) → list_any (λ x. x == y) (range_with_len a (n - a)) ≡ false
none-in a n y bad =
    false_from_ne_true (list_any (λ x. x == y) (range_with_len a (n - a))) (λ t.
    let s = some_of (λ x. x == y) (range_with_len a (n - a)) t in
    let b = range-out a (n - a) s.0 s.1 in
    let low = b.0 in
    let high = b.1 in
    let e : s.0 ≡ y = eqb-true s.0 y s.2 in
    bad (omega arith) (omega arith))

any-range : (a n y : ℕ) → list_any (λ x. x == y) (range_with_len a (n - a)) ≡ (nat_le a y && nat_lt y n)
any-range a n y =
    elim (cases_lt y a) [
      | inl lt ↦ none-in a n y (λ low high. omega arith) ∙ sym (and_left (nat_le a y) (nat_lt y n) (lt-leb a y lt))
      | inr le ↦ elim (cases_lt y n) [
        | inl lt ↦
            some_in (λ x. x == y) (range_with_len a (n - a)) y (range-in a (n - a) y le (omega arith)) (eq-eqb y y refl)
            ∙ sym (and_from (nat_le a y) (nat_lt y n) (le-leb a y le) (lt-ltb y n lt))
        | inr big ↦
            none-in a n y (λ low high. omega arith)
            ∙ sym (and_right (nat_le a y) (nat_lt y n) (le-ltb y n big))
      ]
    ]

pub count-cycle : (a n y : ℕ) → count_by (λ x. x == y) (range_with_len a (n - a)) ≡ one_if (nat_le a y && nat_lt y n)
count-cycle a n y = count-this (range_with_len a (n - a)) y (range-once a (n - a)) ∙ ap one_if (any-range a n y)

-- the same of the first numbers
pub count-first : (n y : ℕ) → y < n → count_by (λ x. x == y) (range_with_len 0 n) ≡ 1
count-first n y lt =
    let all : n - 0 ≡ n = omega arith in
    let within : (nat_le 0 y && nat_lt y n) ≡ true = and_from (nat_le 0 y) (nat_lt y n) (le-leb 0 y (omega arith)) (lt-ltb y n lt) in
    ap (λ m. count_by (λ x. x == y) (range_with_len 0 m)) (sym all) ∙ count-cycle 0 n y ∙ ap one_if within
