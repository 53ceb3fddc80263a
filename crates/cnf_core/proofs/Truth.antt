-- What clauses of a few literals say, and facts of each clause in rows of clauses.
use Rattle.std.proofs.Common.{◌≡◌, ℕ, ◌<◌, Bool, true, false, not, cond, List, [], ◌∷◌, ◌++◌, length, map, get_or, refl, sym, ◌∙◌, subst, arith}
use Rattle.std.specs.Prelude.{◌||◌}
use Rattle.std.specs.List.{All, range_with_len, flat_map}
use Rattle.std.proofs.lemmas.Bool.{false≢true}
use Rattle.std.proofs.lemmas.List.Elements.{All-nil, All-cons, All-head, All-tail, All-append, All-map}
use Rattle.std.proofs.lemmas.List.FromFn.{get_or-range_with_len, get_or-map-range_with_len, length-range_with_len, length-map-range_with_len}
use Rattle.cnf_core.specs.declared.literal.Lit.{Lit}
use Rattle.cnf_core.specs.Formula.{lit_true, clause_true, negated}
use Rattle.cnf_core.specs.Counter.{counter_rows}

-- All over an append, apart
pub All-left : {X : Type 0} (P : X → Type 0) → (xs ys : List X) → All P (xs ++ ys) → All P xs
All-left P [] ys h = All-nil P
All-left P (x ∷ xs) ys h = All-cons P x xs (All-head P x (xs ++ ys) h) (All-left P xs ys (All-tail P x (xs ++ ys) h))

pub All-right : {X : Type 0} (P : X → Type 0) → (xs ys : List X) → All P (xs ++ ys) → All P ys
All-right P [] ys h = h
All-right P (x ∷ xs) ys h = All-right P xs ys (All-tail P x (xs ++ ys) h)

-- All over a map of 0 to n - 1
pub All-to_map : {X : Type 0} (P : X → Type 0) → (f : ℕ → X) (n : ℕ) → ((i : ℕ) → i < n → P (f i)) → All P (map f (range_with_len 0 n))
All-to_map P f n h =
    All-map P f (range_with_len 0 n) (λ k d lt.
    let few : k < n = omega (arith, length-range_with_len 0 n) in
    subst (λ (x : ℕ). P (f x)) (sym (get_or-range_with_len 0 n k d few)) (subst (λ (x : ℕ). P (f x)) (omega arith) (h k few)))

pub All-from_map : {X : Type 0} (P : X → Type 0) → (f : ℕ → X) (n : ℕ) → All P (map f (range_with_len 0 n)) → (i : ℕ) → i < n → P (f i)
All-from_map P f n h i lt =
    subst P (get_or-map-range_with_len f 0 n i i (f i) lt (omega arith)) (h i (f i) (omega (arith, length-map-range_with_len f 0 n)))

-- All over a map, back
pub All-unmap : {X Y : Type 0} (P : Y → Type 0) → (f : X → Y) (xs : List X) → All P (map f xs) → All (λ x. P (f x)) xs
All-unmap P f [] h = All-nil (λ x. P (f x))
All-unmap P f (x ∷ xs) h = All-cons (λ y. P (f y)) x xs (All-head P (f x) (map f xs) h) (All-unmap P f xs (All-tail P (f x) (map f xs) h))

-- All over a flat_map
pub All-to_flat : {X A : Type 0} (P : A → Type 0) → (f : X → List A) (xs : List X) → All (λ x. All P (f x)) xs → All P (flat_map f xs)
All-to_flat P f [] h = All-nil P
All-to_flat P f (x ∷ xs) h = All-append P (f x) (flat_map f xs) (All-head (λ y. All P (f y)) x xs h) (All-to_flat P f xs (All-tail (λ y. All P (f y)) x xs h))

pub All-from_flat : {X A : Type 0} (P : A → Type 0) → (f : X → List A) (xs : List X) → All P (flat_map f xs) → All (λ x. All P (f x)) xs
All-from_flat P f [] h = All-nil (λ x. All P (f x))
All-from_flat P f (x ∷ xs) h =
    All-cons (λ y. All P (f y)) x xs (All-left P (f x) (flat_map f xs) h) (All-from_flat P f xs (All-right P (f x) (flat_map f xs) h))

-- All over rows i of maps of j
pub All-to_rows : {X : Type 0} (P : X → Type 0) → (f : ℕ → ℕ → X) (m n : ℕ) → ((i j : ℕ) → i < m → j < n → P (f i j)) → All P (counter_rows f m n)
unfolding counter_rows
All-to_rows P f m n h =
    All-to_flat P (λ i. map (f i) (range_with_len 0 n)) (range_with_len 0 m) (λ k d lt.
    let few : k < m = omega (arith, length-range_with_len 0 m) in
    subst (λ (x : ℕ). All P (map (f x) (range_with_len 0 n))) (sym (get_or-range_with_len 0 m k d few))
    (subst (λ (x : ℕ). All P (map (f x) (range_with_len 0 n))) (omega arith) (All-to_map P (f k) n (λ j l. h k j few l))))

pub All-from_rows : {X : Type 0} (P : X → Type 0) → (f : ℕ → ℕ → X) (m n : ℕ) → All P (counter_rows f m n) → (i j : ℕ) → i < m → j < n → P (f i j)
unfolding counter_rows
All-from_rows P f m n h i j l k =
    let each : All (λ x. All P (map (f x) (range_with_len 0 n))) (range_with_len 0 m) = All-from_flat P (λ x. map (f x) (range_with_len 0 n)) (range_with_len 0 m) h in
    let few : i < length (range_with_len 0 m) = omega (arith, length-range_with_len 0 m) in
    let e : get_or (range_with_len 0 m) i 0 ≡ i = get_or-range_with_len 0 m i 0 l ∙ omega arith in
    All-from_map P (f i) n (subst (λ (x : ℕ). All P (map (f x) (range_with_len 0 n))) e (each i 0 few)) j k

-- the opposite literal has the opposite value
flip : (p b : Bool) → cond (not p) b (not b) ≡ not (cond p b (not b))
flip true b = refl
flip false true = refl
flip false false = refl

pub lit_true-negated : (w : ℕ → Bool) (l : Lit) → lit_true w (negated l) ≡ not (lit_true w l)
lit_true-negated w l = flip l.positive (w l.var)

imp-out : (x y : Bool) → (not x || (y || false)) ≡ true → x ≡ true → y ≡ true
imp-out true true h e = refl
imp-out true false h e = h
imp-out false y h e = absurd (false≢true e)

imp-in : (x y : Bool) → (x ≡ true → y ≡ true) → (not x || (y || false)) ≡ true
imp-in true true h = refl
imp-in true false h = h refl
imp-in false y h = refl

imp2-out : (x y z : Bool) → (not x || (not y || (z || false))) ≡ true → x ≡ true → y ≡ true → z ≡ true
imp2-out true true true h e f = refl
imp2-out true true false h e f = h
imp2-out true false z h e f = absurd (false≢true f)
imp2-out false y z h e f = absurd (false≢true e)

imp2-in : (x y z : Bool) → (x ≡ true → y ≡ true → z ≡ true) → (not x || (not y || (z || false))) ≡ true
imp2-in true true true h = refl
imp2-in true true false h = h refl refl
imp2-in true false z h = refl
imp2-in false y z h = refl

nand-out : (x y : Bool) → (not x || (not y || false)) ≡ true → x ≡ true → y ≡ true → ⊥
nand-out true true h e f = false≢true h
nand-out true false h e f = false≢true f
nand-out false y h e f = false≢true e

nand-in : (x y : Bool) → (x ≡ true → y ≡ true → ⊥) → (not x || (not y || false)) ≡ true
nand-in true true h = absurd (h refl refl)
nand-in true false h = refl
nand-in false y h = refl

-- a clause `not a, b` says that a implies b
pub implies-out : (w : ℕ → Bool) (a b : Lit) → clause_true w (negated a ∷ b ∷ []) ≡ true → lit_true w a ≡ true → lit_true w b ≡ true
implies-out w a b h = imp-out (lit_true w a) (lit_true w b) (rw lit_true-negated at h)

pub implies-in : (w : ℕ → Bool) (a b : Lit) → (lit_true w a ≡ true → lit_true w b ≡ true) → clause_true w (negated a ∷ b ∷ []) ≡ true
implies-in w a b h = rw (lit_true-negated w a) (imp-in (lit_true w a) (lit_true w b) h)

-- a clause `not a, not b, c` says that a and b imply c
pub implies2-out : (w : ℕ → Bool) (a b c : Lit) → clause_true w (negated a ∷ negated b ∷ c ∷ []) ≡ true → lit_true w a ≡ true → lit_true w b ≡ true → lit_true w c ≡ true
implies2-out w a b c h = imp2-out (lit_true w a) (lit_true w b) (lit_true w c) (rw (lit_true-negated w a, lit_true-negated w b) at h)

pub implies2-in : (w : ℕ → Bool) (a b c : Lit) → (lit_true w a ≡ true → lit_true w b ≡ true → lit_true w c ≡ true) → clause_true w (negated a ∷ negated b ∷ c ∷ []) ≡ true
implies2-in w a b c h = rw (lit_true-negated w a, lit_true-negated w b) (imp2-in (lit_true w a) (lit_true w b) (lit_true w c) h)

-- a clause `not a, not b` says that a and b are not both true
pub excludes-out : (w : ℕ → Bool) (a b : Lit) → clause_true w (negated a ∷ negated b ∷ []) ≡ true → lit_true w a ≡ true → lit_true w b ≡ true → ⊥
excludes-out w a b h = nand-out (lit_true w a) (lit_true w b) (rw (lit_true-negated w a, lit_true-negated w b) at h)

pub excludes-in : (w : ℕ → Bool) (a b : Lit) → (lit_true w a ≡ true → lit_true w b ≡ true → ⊥) → clause_true w (negated a ∷ negated b ∷ []) ≡ true
excludes-in w a b h = rw (lit_true-negated w a, lit_true-negated w b) (nand-in (lit_true w a) (lit_true w b) h)
