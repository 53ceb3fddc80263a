-- Numbers in the order in which they come first in a list.
use Rattle.std.proofs.Common.{◌≡◌, ◌≢◌, ℕ, zero, suc, ◌+◌, ◌<◌, ◌≤◌, true, false, ◌||◌, cond, eqb, Option, Some, None, option_map, List, [], ◌∷◌, ◌++◌, length, get_or, take, drop, fold, max, refl, sym, ap, ◌∙◌, subst, ◌⊎◌, inl, inr, arith, All, AllPairs, Contains}
use Rattle.std.specs.List.{filter_map, list_any, cons_option}
use Rattle.std.proofs.lemmas.Bool.{cases_lt, eqb-true, eqb-false, eq-eqb, ne_eqb, lt-ltb, le-ltb}
use Rattle.std.proofs.lemmas.Bool.Decides.{eqb_tells}
use Rattle.std.proofs.lemmas.List.{length_push, get_or_default, take-append-drop}
use Rattle.std.proofs.lemmas.List.Elements.{All-head, All-tail, All-push, All-nil, filter_map-append}
use Rattle.std.proofs.lemmas.List.Quantifiers.{all_pairs_push}
use Rattle.std.proofs.lemmas.List.Folds.{position_or_len_push}
use Rattle.std.proofs.lemmas.List.Sums.{fold_push, fold-append, passes_at_first, fails_before_first, prefix_len-le-length}
use Rattle.std.proofs.lemmas.Map.Keys.{IsDistinct-from_apart}
use Rattle.std.proofs.lemmas.Map.Steps.{length-le_from_distinct_below}
use Rattle.graph_meaning.specs.WellFormed.{next_after}
use Rattle.saturation.specs.Numbered.{place_in, with_new, firsts}
use Rattle.saturation.proofs.Mapped.{filter_map_more}

-- ---- places

-- the number is in the list
abbrev pub IsIn : List ℕ → ℕ → Type 0
IsIn ns n = place_in ns n < length ns

pub place_within : (ns : List ℕ) (n : ℕ) → place_in ns n ≤ length ns
place_within ns n = prefix_len-le-length _ ns

pub at_place : (ns : List ℕ) (n : ℕ) → IsIn ns n → get_or ns (place_in ns n) 0 ≡ n
at_place ns n h = eqb-true _ _ (passes_at_first (λ m. eqb m n) ns 0 h)

pub place_least : (ns : List ℕ) (n i : ℕ) → i < length ns → get_or ns i 0 ≡ n → place_in ns n ≤ i
place_least ns n i l e = elim (cases_lt i (place_in ns n)) [
  | inl b ↦ absurd (eqb-false _ _ (fails_before_first (λ m. eqb m n) ns i 0 b) e)
  | inr b ↦ b
]

pub is_in : (ns : List ℕ) (n i : ℕ) → i < length ns → get_or ns i 0 ≡ n → IsIn ns n
is_in ns n i l e = let k = place_least ns n i l e in omega arith

pub one_place : (ns : List ℕ) (a b : ℕ) → IsIn ns a → IsIn ns b → place_in ns a ≡ place_in ns b → a ≡ b
one_place ns a b h k e = sym (at_place ns a h) ∙ ap (λ i. get_or ns i 0) e ∙ at_place ns b k

pub place_pushed : (ns : List ℕ) (m n : ℕ) → IsIn ns n → place_in (ns ++ m ∷ []) n ≡ place_in ns n
place_pushed ns m n h =
    position_or_len_push (λ k. eqb k n) ns m
    ∙ ap (λ b. cond b (length ns + cond (eqb m n) 0 1) (place_in ns n)) (ne_eqb (place_in ns n) (length ns) (omega arith))

pub place_new : (ns : List ℕ) (n : ℕ) → place_in ns n ≡ length ns → place_in (ns ++ n ∷ []) n ≡ length ns
place_new ns n e =
    position_or_len_push (λ k. eqb k n) ns n
    ∙ ap (λ b. cond b (length ns + cond (eqb n n) 0 1) (place_in ns n)) (eq-eqb (place_in ns n) (length ns) e)
    ∙ ap (λ b. length ns + cond b 0 1) (eq-eqb n n refl)
    ∙ (let z : length ns + 0 ≡ length ns = omega arith in z)

pub place_other : (ns : List ℕ) (m n : ℕ) → m ≢ n → place_in ns n ≡ length ns → place_in (ns ++ m ∷ []) n ≡ length ns + 1
place_other ns m n d e =
    position_or_len_push (λ k. eqb k n) ns m
    ∙ ap (λ b. cond b (length ns + cond (eqb m n) 0 1) (place_in ns n)) (eq-eqb (place_in ns n) (length ns) e)
    ∙ ap (λ b. length ns + cond b 0 1) (ne_eqb m n d)

-- ---- one more number

abbrev Cases : List ℕ → ℕ → Type 0
Cases seen n = (IsIn seen n × (with_new seen n ≡ seen)) ⊎ ((place_in seen n ≡ length seen) × (with_new seen n ≡ seen ++ n ∷ []))

pub cases : (seen : List ℕ) (n : ℕ) → Cases seen n
cases seen n =
    let w = place_within seen n in
    elim (cases_lt (place_in seen n) (length seen)) [
      | inl l ↦ inl (l, ap (λ b. cond b seen (seen ++ n ∷ [])) (lt-ltb _ _ l))
      | inr l ↦ inr (omega arith, ap (λ b. cond b seen (seen ++ n ∷ [])) (le-ltb _ _ l))
    ]

-- a number that is there keeps its place
pub new_keeps : (seen : List ℕ) (m n : ℕ) → IsIn seen n → (place_in (with_new seen m) n ≡ place_in seen n) × IsIn (with_new seen m) n
new_keeps seen m n h = elim (cases seen m) [
  | inl k ↦ rw k.1 (refl, h)
  | inr k ↦ rw k.1 (let e = place_pushed seen m n h in let l = length_push seen m in (e, omega arith))
]

-- the number is there then, and its place is not behind the others
pub new_there : (seen : List ℕ) (n : ℕ) → IsIn (with_new seen n) n × (place_in (with_new seen n) n ≤ length seen)
new_there seen n = elim (cases seen n) [
  | inl k ↦ rw k.1 (k.0, omega (arith, k.0))
  | inr k ↦ rw k.1 (let e = place_new seen n k.0 in let l = length_push seen n in (omega arith, omega arith))
]

-- ---- all numbers of a list

pub all_keep : (ns seen : List ℕ) (n : ℕ) → IsIn seen n → (place_in (fold with_new seen ns) n ≡ place_in seen n) × IsIn (fold with_new seen ns) n
all_keep [] seen n h = (refl, h)
all_keep (m ∷ ns) seen n h =
    let k = new_keeps seen m n h in
    let t = all_keep ns (with_new seen m) n k.1 in
    (t.0 ∙ k.0, t.1)

pub all_are : (P : ℕ → Type 0) (ns seen : List ℕ) → All P seen → All P ns → All P (fold with_new seen ns)
all_are P [] seen h k = h
all_are P (n ∷ ns) seen h k =
    all_are P ns (with_new seen n)
    (elim (cases seen n) [ inl l ↦ rw l.1 h | inr l ↦ rw l.1 (All-push P seen n h (All-head P n ns k)) ])
    (All-tail P n ns k)

there_by : (ns seen : List ℕ) (n k : ℕ) → k < length ns → get_or ns k n ≡ n → IsIn (fold with_new seen ns) n
there_by [] seen n k l e = absurd (omega arith)
there_by (m ∷ ns) seen n zero l e = (all_keep ns (with_new seen m) n (subst (λ x. IsIn (with_new seen m) x) e (new_there seen m).0)).1
there_by (m ∷ ns) seen n (suc k) l e = there_by ns (with_new seen m) n k (omega arith) e

-- each number of the list is there
pub all_there : (ns : List ℕ) (n : ℕ) → Contains ns n → IsIn (firsts ns) n
all_there ns n h = there_by ns [] n h.0 h.1 h.2

abbrev AreApart : List ℕ → Type 0
AreApart ns = AllPairs (λ m n. m ≢ n) ns

pub apart_more : (ns seen : List ℕ) → AreApart seen → AreApart (fold with_new seen ns)
apart_more [] seen h = h
apart_more (n ∷ ns) seen h =
    apart_more ns (with_new seen n) (elim (cases seen n) [
      | inl l ↦ rw l.1 h
      | inr l ↦ rw l.1 (all_pairs_push (λ m n. m ≢ n) seen n h (λ k d b e. let i = is_in seen n k b (get_or_default seen k 0 d b ∙ e) in omega (arith, i, l.0)))
    ])

any_below : (limit q : ℕ) (ns : List ℕ) → All (λ n. n < limit) ns → list_any (eqb q) ns ≡ true → q < limit
any_below limit q [] h e = absurd (let k : false ≡ true = e in cc)
any_below limit q (n ∷ ns) h e = elim (eqb_tells q n) [
  | inl k ↦ (let l = All-head (λ n. n < limit) n ns h in omega (arith, l, k.1))
  | inr k ↦ any_below limit q ns (All-tail (λ n. n < limit) n ns h) (sym (ap (λ b. b || list_any (eqb q) ns) k.0) ∙ e)
]

-- the different numbers of a list whose numbers are below a limit are at most so many
pub few_firsts : (limit : ℕ) (ns : List ℕ) → All (λ n. n < limit) ns → length (firsts ns) ≤ limit
few_firsts limit ns h =
    let P = λ (n : ℕ). n < limit in
    let apart = apart_more ns [] (λ i j d l m. absurd (omega arith)) in
    length-le_from_distinct_below (firsts ns) limit
    (IsDistinct-from_apart eqb (firsts ns) (λ i j d l m. ne_eqb _ _ (apart i j d l m)))
    (λ q e. any_below limit q (firsts ns) (all_are P ns [] (All-nil P) h) e)

-- one more number behind them
pub firsts_push : (ns : List ℕ) (n : ℕ) → firsts (ns ++ n ∷ []) ≡ with_new (firsts ns) n
firsts_push ns n = fold_push with_new [] ns n

-- ---- the order of first places

module _ {X : Type 0} (f : X → Option ℕ) (place : ℕ → ℕ) where
  abbrev numbers_in : List X → List ℕ
  numbers_in xs = filter_map f xs

  abbrev step : ℕ → X → ℕ
  step m x = max m (next_after (option_map place (f x)))

  -- `place` gives the places among these numbers
  abbrev pub Places : List ℕ → Type 0
  Places ns = (n : ℕ) → IsIn ns n → place n ≡ place_in ns n

  before : (ns seen : List ℕ) → Places (fold with_new seen ns) → Places seen
  before ns seen h n k = let t = all_keep ns seen n k in h n t.1 ∙ t.0

  one_step : (o : Option ℕ) (x : X) (seen : List ℕ) (m : ℕ) → f x ≡ o → m ≡ length seen → Places (fold with_new seen (cons_option o [])) → step m x ≡ length (fold with_new seen (cons_option o []))
  one_step None x seen m e is places = ap (λ o. max m (next_after (option_map place o))) e ∙ (let z : max m 0 ≡ length seen = omega arith in z)
  one_step (Some n) x seen m e is places =
      ap (λ o. max m (next_after (option_map place o))) e
      ∙ elim (cases seen n) [
        | inl k ↦ rw k.1 (let p : place n ≡ place_in (with_new seen n) n = places n (new_there seen n).0 in let q = (new_keeps seen n n k.0).0 in (let z : max m (place n + 1) ≡ length seen = omega (arith, p, q, k.0, is) in z))
        | inr k ↦ rw k.1 (let p : place n ≡ place_in (with_new seen n) n = places n (new_there seen n).0 in let q : place_in (with_new seen n) n ≡ length seen = rw k.1 (place_new seen n k.0) in let l = length_push seen n in (let z : max m (place n + 1) ≡ length (seen ++ n ∷ []) = omega (arith, p, q, l, is) in z))
      ]

  one_then : (o : Option ℕ) (seen ns : List ℕ) → fold with_new seen (cons_option o ns) ≡ fold with_new (fold with_new seen (cons_option o [])) ns
  one_then None seen ns = refl
  one_then (Some n) seen ns = refl

  -- the next number after these items, where the numbers before them are `seen`
  pub next_from : (ys : List X) (seen : List ℕ) (m : ℕ) → m ≡ length seen → Places (fold with_new seen (numbers_in ys)) → fold step m ys ≡ length (fold with_new seen (numbers_in ys))
  next_from [] seen m is places = is
  next_from (y ∷ ys) seen m is places =
      let one : fold with_new seen (cons_option (f y) (numbers_in ys)) ≡ fold with_new (fold with_new seen (cons_option (f y) [])) (numbers_in ys) = one_then (f y) seen (numbers_in ys) in
      let more : Places (fold with_new (fold with_new seen (cons_option (f y) [])) (numbers_in ys)) = subst Places one places in
      let here = before (numbers_in ys) (fold with_new seen (cons_option (f y) [])) more in
      next_from ys (fold with_new seen (cons_option (f y) [])) (step m y) (one_step (f y) y seen m refl is here) more ∙ ap length (sym one)

-- the numbers of a list's items are in the order of their first places
module _ {X : Type 0} (f : X → Option ℕ) (xs : List X) where
  abbrev place_of : ℕ → ℕ
  place_of n = place_in (firsts (filter_map f xs)) n

  -- the next number after some items
  abbrev pub next_number : List X → ℕ
  next_number ys = fold (step f place_of) 0 ys

  split : (i : ℕ) → firsts (filter_map f xs) ≡ fold with_new (firsts (filter_map f (take i xs))) (filter_map f (drop i xs))
  split i =
      ap (λ ys. firsts (filter_map f ys)) (sym (take-append-drop i xs))
      ∙ ap firsts (filter_map-append f (take i xs) (drop i xs))
      ∙ fold-append with_new [] (filter_map f (take i xs)) (filter_map f (drop i xs))

  keeps : (i n : ℕ) → IsIn (firsts (filter_map f (take i xs))) n → place_of n ≡ place_in (firsts (filter_map f (take i xs))) n
  keeps i n h = ap (λ ns. place_in ns n) (split i) ∙ (all_keep (filter_map f (drop i xs)) (firsts (filter_map f (take i xs))) n h).0

  pub next_is : (i : ℕ) → next_number (take i xs) ≡ length (firsts (filter_map f (take i xs)))
  next_is i = next_from f place_of (take i xs) [] 0 refl (keeps i)

  -- an item's number is that of an earlier one, or the next
  pub in_order : (i n : ℕ) (x : X) → i < length xs → get_or xs i x ≡ x → f x ≡ Some n → place_of n ≤ next_number (take i xs)
  in_order i n x l is e =
      let seen = firsts (filter_map f (take i xs)) in
      let more : firsts (filter_map f (take (i + 1) xs)) ≡ with_new seen n =
      ap firsts (filter_map_more f xs i x l)
      ∙ fold-append with_new [] (filter_map f (take i xs)) (cons_option (f (get_or xs i x)) [])
      ∙ ap (λ y. fold with_new seen (cons_option (f y) [])) is
      ∙ ap (λ o. fold with_new seen (cons_option o [])) e in
      let new = new_there seen n in
      let at : place_of n ≡ place_in (with_new seen n) n = keeps (i + 1) n (subst (λ ns. IsIn ns n) (sym more) new.0) ∙ ap (λ ns. place_in ns n) more in
      omega (arith, at, new.1, next_is i)
