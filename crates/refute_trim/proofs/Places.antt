-- The places of marks, and how many of them are before a place.
use Rattle.std.proofs.Common.{◌≡◌, ℕ, zero, suc, ◌+◌, ◌-◌, ◌<◌, ◌≤◌, true, false, Bool, cond, List, [], ◌∷◌, ◌++◌, take, length, get_or, refl, sym, ◌∙◌, ap, subst, inl, inr, arith, Some}
use Rattle.std.specs.Prelude.{All, AllPairs, Contains, filter, slice_get, nat_lt, nat_le}
use Rattle.std.proofs.lemmas.Bool.{cases_lt, false≢true}
use Rattle.std.proofs.lemmas.Bool.Decides.{nat_tests}
use Rattle.std.proofs.lemmas.List.Elements.{All-head, All-tail, All-nil, All-cons, All-weaker}
use Rattle.std.proofs.lemmas.Option.{slice_get_within, get_or_from_slice_get, same_Some, none-some}
use Rattle.refute_trim.specs.Marks.{places_from}
use Rattle.refute_trim.specs.Trimmed.{new_number, places_below}

-- ---- how many places are before one

abbrev those_below : List ℕ → ℕ → List ℕ
those_below ps j = filter (λ p. nat_lt p j) ps

below_yes : (q j : ℕ) (ps : List ℕ) → q < j → places_below (q ∷ ps) j ≡ suc (places_below ps j)
below_yes q j ps l =
    let e : nat_lt q j ≡ true = grind (arith, nat_tests, l) in
    ap (λ b. length (cond b (q ∷ those_below ps j) (those_below ps j))) e

below_no : (q j : ℕ) (ps : List ℕ) → j ≤ q → places_below (q ∷ ps) j ≡ places_below ps j
below_no q j ps l =
    let e : nat_lt q j ≡ false = grind (arith, nat_tests, l) in
    ap (λ b. length (cond b (q ∷ those_below ps j) (those_below ps j))) e

pub below_none : (ps : List ℕ) (j : ℕ) → All (λ q. j ≤ q) ps → places_below ps j ≡ 0
below_none [] j h = refl
below_none (q ∷ ps) j h = below_no q j ps (All-head (λ q. j ≤ q) q ps h) ∙ below_none ps j (All-tail (λ q. j ≤ q) q ps h)

-- ---- a rising list

pub tail_pairs : (q : ℕ) (ps : List ℕ) → AllPairs (λ a b. a < b) (q ∷ ps) → AllPairs (λ a b. a < b) ps
tail_pairs q ps h = λ i j d l m. h (suc i) (suc j) d (omega (arith, l)) (omega (arith, m))

pub head_below : (q : ℕ) (ps : List ℕ) → AllPairs (λ a b. a < b) (q ∷ ps) → All (λ r. q < r) ps
head_below q ps h = λ i d l. h 0 (suc i) d (omega arith) (omega (arith, l))

cons_pairs : (q : ℕ) (ps : List ℕ) → All (λ r. q < r) ps → AllPairs (λ a b. a < b) ps → (i j d : ℕ) → i < j → j < length (q ∷ ps) → get_or (q ∷ ps) i d < get_or (q ∷ ps) j d
cons_pairs q ps above h zero zero d l m = absurd (omega (arith, l))
cons_pairs q ps above h zero (suc j) d l m = above j d (omega (arith, m))
cons_pairs q ps above h (suc i) zero d l m = absurd (omega (arith, l))
cons_pairs q ps above h (suc i) (suc j) d l m = h i j d (omega (arith, l)) (omega (arith, m))

pub below_at : (ps : List ℕ) → AllPairs (λ a b. a < b) ps → (k p : ℕ) → slice_get ps k ≡ Some p → places_below ps p ≡ k
below_at [] rising k p e = absurd (none-some p e)
below_at (q ∷ ps) rising zero p e =
    let same : q ≡ p = same_Some q p e in
    below_no q p ps (omega (arith, same))
    ∙ below_none ps p (All-weaker (λ r. q < r) (λ r. p ≤ r) (λ r l. omega (arith, l, same)) ps (head_below q ps rising))
below_at (q ∷ ps) rising (suc k) p e =
    let inside = slice_get_within ps k p e in
    let r = head_below q ps rising k 0 inside in
    let is : get_or ps k 0 ≡ p = get_or_from_slice_get ps k p 0 e in
    below_yes q p ps (omega (arith, r, is)) ∙ ap suc (below_at ps (tail_pairs q ps rising) k p e)

-- ---- new numbers

pub of_clause : (n : ℕ) (ps : List ℕ) (h : ℕ) → h ≤ n → new_number n ps h ≡ h
of_clause n ps h le = let e : nat_le h n ≡ true = grind (arith, nat_tests, le) in ap (λ b. cond b h (n + places_below ps (h - n - 1) + 1)) e

pub of_line : (n : ℕ) (ps : List ℕ) (h : ℕ) → n < h → new_number n ps h ≡ n + places_below ps (h - n - 1) + 1
of_line n ps h lt = let e : nat_le h n ≡ false = grind (arith, nat_tests, lt) in ap (λ b. cond b h (n + places_below ps (h - n - 1) + 1)) e

pub of_lemma : (n : ℕ) (ps : List ℕ) → AllPairs (λ a b. a < b) ps → (h j m : ℕ) → h ≡ n + j + 1 → slice_get ps m ≡ Some j → new_number n ps h ≡ n + m + 1
of_lemma n ps rising h j m e at =
    let place : h - n - 1 ≡ j = omega (arith, e) in
    of_line n ps h (omega (arith, e)) ∙ ap (λ i. n + places_below ps i + 1) place ∙ ap (λ i. n + i + 1) (below_at ps rising m j at)

-- no number grows, and none becomes 0

pub below_from : (s : ℕ) (ps : List ℕ) (j : ℕ) → All (λ q. s ≤ q) ps → AllPairs (λ a b. a < b) ps → places_below ps j ≤ j - s
below_from s [] j above rising = let none : places_below [] j ≡ 0 = refl in omega (arith, none)
below_from s (q ∷ ps) j above rising = elim (cases_lt q j) [
  | inl lt ↦ (
      let first = All-head (λ r. s ≤ r) q ps above in
      let rest = below_from (suc q) ps j (All-weaker (λ r. q < r) (λ r. suc q ≤ r) (λ r l. omega (arith, l)) ps (head_below q ps rising)) (tail_pairs q ps rising) in
      let more = below_yes q j ps lt in
      omega (arith, first, rest, more, lt))
  | inr le ↦ (
      let same = below_no q j ps le in
      let none = below_none ps j (All-weaker (λ r. q < r) (λ r. j ≤ r) (λ r l. omega (arith, l, le)) ps (head_below q ps rising)) in
      omega (arith, same, none))
]

pub below_most : (ps : List ℕ) (j : ℕ) → AllPairs (λ a b. a < b) ps → places_below ps j ≤ j
below_most ps j rising = let b = below_from 0 ps j (λ i d l. omega arith) rising in omega (arith, b)

pub number_at_most : (n : ℕ) (ps : List ℕ) (h : ℕ) → AllPairs (λ a b. a < b) ps → new_number n ps h ≤ h
number_at_most n ps h rising = elim (cases_lt n h) [
  | inl lt ↦ (let e = of_line n ps h lt in let b = below_most ps (h - n - 1) rising in omega (arith, e, b, lt))
  | inr le ↦ (let e = of_clause n ps h le in omega (arith, e))
]

pub number_at_least : (n : ℕ) (ps : List ℕ) (h : ℕ) → 1 ≤ h → 1 ≤ new_number n ps h
number_at_least n ps h some = elim (cases_lt n h) [
  | inl lt ↦ (let e = of_line n ps h lt in omega (arith, e))
  | inr le ↦ (let e = of_clause n ps h le in omega (arith, e, some))
]

-- ---- places of marks

from_above : (s : ℕ) (ms : List Bool) → All (λ q. s ≤ q) (places_from s ms)
from_above s [] = All-nil (λ q. s ≤ q)
from_above s (true ∷ ms) =
    All-cons (λ q. s ≤ q) s (places_from (suc s) ms) (omega arith) (All-weaker (λ q. suc s ≤ q) (λ q. s ≤ q) (λ q l. omega (arith, l)) (places_from (suc s) ms) (from_above (suc s) ms))
from_above s (false ∷ ms) = All-weaker (λ q. suc s ≤ q) (λ q. s ≤ q) (λ q l. omega (arith, l)) (places_from (suc s) ms) (from_above (suc s) ms)

pub from_rising : (s : ℕ) (ms : List Bool) → AllPairs (λ a b. a < b) (places_from s ms)
from_rising s [] = λ i j d l m. absurd (omega (arith, m))
from_rising s (true ∷ ms) =
    cons_pairs s (places_from (suc s) ms) (All-weaker (λ q. suc s ≤ q) (λ q. s < q) (λ q l. omega (arith, l)) (places_from (suc s) ms) (from_above (suc s) ms)) (from_rising (suc s) ms)
from_rising s (false ∷ ms) = from_rising (suc s) ms

-- a mark's place is among them
pub marked_contained : (s : ℕ) (ms : List Bool) (k p : ℕ) → p ≡ s + k → get_or ms k false ≡ true → Contains (places_from s ms) p
marked_contained s [] k p e is = absurd (false≢true is)
marked_contained s (true ∷ ms) zero p e is = (0, omega arith, (let here : s ≡ p = omega (arith, e) in here))
marked_contained s (false ∷ ms) zero p e is = absurd (false≢true is)
marked_contained s (true ∷ ms) (suc k) p e is = let c = marked_contained (suc s) ms k p (omega (arith, e)) is in (suc c.0, (let l = c.1 in omega (arith, l)), c.2)
marked_contained s (false ∷ ms) (suc k) p e is = marked_contained (suc s) ms k p (omega (arith, e)) is

-- and each of them is a mark's
abbrev Mark : ℕ → List Bool → ℕ → Type 0
Mark s ms p = (k : ℕ) × (p ≡ s + k) × (get_or ms k false ≡ true)

next_mark : (s : ℕ) (m : Bool) (ms : List Bool) (p : ℕ) → Mark (suc s) ms p → Mark s (m ∷ ms) p
next_mark s m ms p (k, e, is) = (suc k, omega (arith, e), is)

marked_at : (s : ℕ) (ms : List Bool) (i p : ℕ) → i < length (places_from s ms) → get_or (places_from s ms) i p ≡ p → Mark s ms p
marked_at s [] i p l e = absurd (omega (arith, l))
marked_at s (true ∷ ms) zero p l e = (0, (let here : s ≡ p = e in omega (arith, here)), refl)
marked_at s (true ∷ ms) (suc i) p l e = next_mark s true ms p (marked_at (suc s) ms i p (omega (arith, l)) e)
marked_at s (false ∷ ms) i p l e = next_mark s false ms p (marked_at (suc s) ms i p l e)

pub contained_marked : (ms : List Bool) (p : ℕ) → Contains (places_from 0 ms) p → get_or ms p false ≡ true
contained_marked ms p (i, l, e) =
    let m = marked_at 0 ms i p l e in
    let at = m.1 in
    let same : m.0 ≡ p = omega (arith, at) in
    subst (λ k. get_or ms k false ≡ true) same m.2

-- the number of places before the next one
pub below_marked : (s : ℕ) (ms : List Bool) (k p : ℕ) → p ≡ s + k → get_or ms k false ≡ true → places_below (places_from s ms) (p + 1) ≡ places_below (places_from s ms) p + 1
below_marked s [] k p e is = absurd (false≢true is)
below_marked s (true ∷ ms) zero p e is =
    let rest = places_from (suc s) ms in
    let after = from_above (suc s) ms in
    let y = below_yes s (p + 1) rest (omega (arith, e)) in
    let z = below_none rest (p + 1) (All-weaker (λ q. suc s ≤ q) (λ q. p + 1 ≤ q) (λ q l. omega (arith, l, e)) rest after) in
    let y' = below_no s p rest (omega (arith, e)) in
    let z' = below_none rest p (All-weaker (λ q. suc s ≤ q) (λ q. p ≤ q) (λ q l. omega (arith, l, e)) rest after) in
    omega (arith, y, z, y', z')
below_marked s (false ∷ ms) zero p e is = absurd (false≢true is)
below_marked s (true ∷ ms) (suc k) p e is =
    let rest = places_from (suc s) ms in
    let y = below_yes s (p + 1) rest (omega (arith, e)) in
    let y' = below_yes s p rest (omega (arith, e)) in
    let h = below_marked (suc s) ms k p (omega (arith, e)) is in
    omega (arith, y, y', h)
below_marked s (false ∷ ms) (suc k) p e is = below_marked (suc s) ms k p (omega (arith, e)) is

pub below_unmarked : (s : ℕ) (ms : List Bool) (k p : ℕ) → p ≡ s + k → get_or ms k false ≡ false → places_below (places_from s ms) (p + 1) ≡ places_below (places_from s ms) p
below_unmarked s [] k p e is = refl
below_unmarked s (true ∷ ms) zero p e is = absurd (false≢true (sym is))
below_unmarked s (false ∷ ms) zero p e is =
    let rest = places_from (suc s) ms in
    let after = from_above (suc s) ms in
    below_none rest (p + 1) (All-weaker (λ q. suc s ≤ q) (λ q. p + 1 ≤ q) (λ q l. omega (arith, l, e)) rest after)
    ∙ sym (below_none rest p (All-weaker (λ q. suc s ≤ q) (λ q. p ≤ q) (λ q l. omega (arith, l, e)) rest after))
below_unmarked s (true ∷ ms) (suc k) p e is =
    let rest = places_from (suc s) ms in
    let y = below_yes s (p + 1) rest (omega (arith, e)) in
    let y' = below_yes s p rest (omega (arith, e)) in
    let h = below_unmarked (suc s) ms k p (omega (arith, e)) is in
    omega (arith, y, y', h)
below_unmarked s (false ∷ ms) (suc k) p e is = below_unmarked (suc s) ms k p (omega (arith, e)) is

-- the places of the first marks, and of one more
places_suc : (s : ℕ) (ms : List Bool) (k p : ℕ) → p ≡ s + k → k < length ms → get_or ms k false ≡ true → places_from s (take (suc k) ms) ≡ places_from s (take k ms) ++ p ∷ []
places_suc s [] k p e l is = absurd (omega (arith, l))
places_suc s (true ∷ ms) zero p e l is = let same : s ≡ p = omega (arith, e) in ap (λ q. q ∷ []) same
places_suc s (false ∷ ms) zero p e l is = absurd (false≢true is)
places_suc s (true ∷ ms) (suc k) p e l is = ap (λ ps. s ∷ ps) (places_suc (suc s) ms k p (omega (arith, e)) (omega (arith, l)) is)
places_suc s (false ∷ ms) (suc k) p e l is = places_suc (suc s) ms k p (omega (arith, e)) (omega (arith, l)) is

places_same : (s : ℕ) (ms : List Bool) (k : ℕ) → get_or ms k false ≡ false → places_from s (take (suc k) ms) ≡ places_from s (take k ms)
places_same s [] zero is = refl
places_same s [] (suc k) is = refl
places_same s (true ∷ ms) zero is = absurd (false≢true (sym is))
places_same s (false ∷ ms) zero is = refl
places_same s (true ∷ ms) (suc k) is = ap (λ ps. s ∷ ps) (places_same (suc s) ms k is)
places_same s (false ∷ ms) (suc k) is = places_same (suc s) ms k is

pub places_more : (ms : List Bool) (k : ℕ) → k < length ms → get_or ms k false ≡ true → places_from 0 (take (k + 1) ms) ≡ places_from 0 (take k ms) ++ k ∷ []
places_more ms k l is = let next : k + 1 ≡ suc k = omega arith in ap (λ m. places_from 0 (take m ms)) next ∙ places_suc 0 ms k k (omega arith) l is

pub places_kept : (ms : List Bool) (k : ℕ) → get_or ms k false ≡ false → places_from 0 (take (k + 1) ms) ≡ places_from 0 (take k ms)
places_kept ms k is = let next : k + 1 ≡ suc k = omega arith in ap (λ m. places_from 0 (take m ms)) next ∙ places_same 0 ms k is
