-- The least and the greatest of numbers.
use Rattle.std.proofs.Common.{ℕ, ◌≤◌, min, max, List, [], ◌∷◌, arith, inl, inr, Option, Some, None}
use Rattle.std.specs.Prelude.{Contains, fold}
use Rattle.slot_capacity.specs.Deadlines.{least_of, greatest_of}
use Rattle.cycle_encoding.proofs.Members.{either, here, later, nothing}

-- the least of these and of one more number, if there is one
abbrev pub least_with : Option ℕ → List ℕ → ℕ
least_with None xs = least_of xs
least_with (Some n) xs = fold min n xs

-- ---- bounds

pub min-below : (xs : List ℕ) (a : ℕ) → fold min a xs ≤ a
min-below [] a = omega arith
min-below (x ∷ xs) a = (let h = min-below xs (min a x) in omega arith)

min-each : (xs : List ℕ) (a x : ℕ) → Contains xs x → fold min a xs ≤ x
min-each [] a x h = absurd (nothing x h)
min-each (y ∷ xs) a x h = elim (either y x xs h) [
  | inl e ↦ (let b = min-below xs (min a y) in omega arith)
  | inr c ↦ min-each xs (min a y) x c
]

-- the least of numbers is at most each
pub least-below : (xs : List ℕ) (x : ℕ) → Contains xs x → least_of xs ≤ x
least-below [] x h = absurd (nothing x h)
least-below (y ∷ xs) x h = elim (either y x xs h) [
  | inl e ↦ (let b = min-below xs y in omega arith)
  | inr c ↦ min-each xs y x c
]

pub max-above : (xs : List ℕ) (a : ℕ) → a ≤ fold max a xs
max-above [] a = omega arith
max-above (x ∷ xs) a = (let h = max-above xs (max a x) in omega arith)

max-each : (xs : List ℕ) (a x : ℕ) → Contains xs x → x ≤ fold max a xs
max-each [] a x h = absurd (nothing x h)
max-each (y ∷ xs) a x h = elim (either y x xs h) [
  | inl e ↦ (let b = max-above xs (max a y) in omega arith)
  | inr c ↦ max-each xs (max a y) x c
]

-- the greatest is at least each
pub greatest-above : (xs : List ℕ) (x : ℕ) → Contains xs x → x ≤ greatest_of xs
greatest-above xs x h = max-each xs 0 x h

-- and at most what all are
pub max-within : (xs : List ℕ) (a n : ℕ) → a ≤ n → ((x : ℕ) → Contains xs x → x ≤ n) → fold max a xs ≤ n
max-within [] a n le h = le
max-within (x ∷ xs) a n le h =
    let b = h x (here x xs) in
    max-within xs (max a x) n (omega arith) (λ y c. h y (later x y xs c))

pub greatest-within : (xs : List ℕ) (n : ℕ) → ((x : ℕ) → Contains xs x → x ≤ n) → greatest_of xs ≤ n
greatest-within xs n h = max-within xs 0 n (omega arith) h
