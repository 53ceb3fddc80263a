-- Trimmed again, the lines stay.
use Rattle.std.proofs.Common.{◌≡◌, ℕ, zero, suc, ◌+◌, ◌-◌, ◌<◌, ◌≤◌, List, [], ◌∷◌, map, length, get_or, refl, sym, ◌∙◌, ap, inl, inr, arith, Some}
use Rattle.std.specs.Prelude.{All, AllPairs, Contains, slice_get}
use Rattle.std.proofs.lemmas.Bool.{cases_lt}
use Rattle.std.proofs.lemmas.List.Elements.{All-head, All-tail}
use Rattle.std.proofs.lemmas.Option.{slice_get_within, slice_get-get_or, get_or_from_slice_get, same_Some}
use Rattle.cnf_core.specs.Formula.{Formula}
use Rattle.cnf_core.specs.Refutation.{AreAccepted}
use Rattle.cnf_core.specs.declared.line.Line.{Line}
use Rattle.refute_trim.specs.Needed.{IsNeeded, last, hint}
use Rattle.refute_trim.specs.Trimmed.{AreTrimmed, AllButLastAreHints, new_number}
use Rattle.refute_trim.proofs.Accepted.{accepted_at, earlier}
use Rattle.refute_trim.proofs.Hints.{zip_long, zip_right, needed_within}
use Rattle.refute_trim.proofs.Places.{of_clause, of_lemma}

-- each line is needed
all_needed : (lines : List Line) → AllButLastAreHints lines → (fuel k : ℕ) → length lines ≤ k + fuel → k < length lines → IsNeeded lines k
all_needed lines hints zero k far l = absurd (omega (arith, far, l))
all_needed lines hints (suc fuel) k far l = elim (cases_lt (k + 1) (length lines)) [
  | inr le ↦ last (omega (arith, le, l))
  | inl more ↦ (
      let none : Line = record { id = 0; lits = []; hints = [] } in
      let d = get_or lines k none in
      let there : slice_get lines k ≡ Some d = slice_get-get_or lines k none l in
      let h = hints k d there more in
      let above = h.2 in
      let inside = slice_get_within lines h.0 h.1 h.3 in
      hint (all_needed lines hints fuel h.0 (omega (arith, far, above)) inside) (record { hinted = d; hinting = h.1; hinted_there = there; hinting_there = h.3; among = h.4 }))
]

-- a rising list that holds each number below N, and no other, is these numbers in order
module _ (ps : List ℕ) (N : ℕ) (rising : AllPairs (λ a b. a < b) ps) (all : (k : ℕ) → k < N → Contains ps k) (only : (k : ℕ) → Contains ps k → k < N) where
  at_least : (k : ℕ) → k < length ps → k ≤ get_or ps k 0
  at_least zero l = omega arith
  at_least (suc k) l = let r = rising k (suc k) 0 (omega arith) l in let b = at_least k (omega (arith, l)) in omega (arith, r, b)

  in_place_by : (fuel k : ℕ) → k < fuel → k < N → (get_or ps k 0 ≡ k) × (k < length ps)
  in_place_by zero k f l = absurd (omega (arith, f))
  in_place_by (suc fuel) k f l =
      let c = all k l in
      let is : get_or ps c.0 0 ≡ k = get_or_from_slice_get ps c.0 k 0 (slice_get-get_or ps c.0 k c.1 ∙ ap Some c.2) in
      let low = at_least c.0 c.1 in
      let inside = c.1 in
      elim (cases_lt c.0 k) [
        | inl lt ↦ absurd (let e = (in_place_by fuel c.0 (omega (arith, lt, f)) (omega (arith, lt, l))).0 in omega (arith, e, is, lt))
        | inr le ↦ (let same : c.0 ≡ k = omega (arith, le, low, is) in (ap (λ i. get_or ps i 0) (sym same) ∙ is, omega (arith, same, inside)))
      ]

  in_place : (k : ℕ) → k < N → slice_get ps k ≡ Some k
  in_place k l = let h = in_place_by (suc k) k (omega arith) l in slice_get-get_or ps k 0 h.1 ∙ ap Some h.0

  count : length ps ≡ N
  count = elim (cases_lt (length ps) N) [
    | inl lt ↦ absurd (let h = (in_place_by (suc (length ps)) (length ps) (omega arith) lt).1 in omega (arith, h))
    | inr le ↦ elim (cases_lt N (length ps)) [
      | inr ge ↦ omega (arith, le, ge)
      | inl more ↦ absurd (
          let x = get_or ps N 0 in
          let there : slice_get ps N ≡ Some x = slice_get-get_or ps N 0 more in
          let w = only x (N, more, get_or_from_slice_get ps N x x there) in
          let b = at_least N more in
          omega (arith, w, b))
    ]
  ]

map_same : (g : ℕ → ℕ) (xs : List ℕ) → All (λ x. g x ≡ x) xs → map g xs ≡ xs
map_same g [] h = refl
map_same g (x ∷ xs) h = let e = All-head (λ x. g x ≡ x) x xs h in let t = map_same g xs (All-tail (λ x. g x ≡ x) x xs h) in cc

same_lists : (xs ys : List Line) → length xs ≡ length ys → ((k : ℕ) (x : Line) → slice_get xs k ≡ Some x → slice_get ys k ≡ Some x) → xs ≡ ys
same_lists [] [] e h = refl
same_lists [] (y ∷ ys) e h = absurd (omega (arith, e))
same_lists (x ∷ xs) [] e h = absurd (omega (arith, e))
same_lists (x ∷ xs) (y ∷ ys) e h =
    let first : y ≡ x = same_Some y x (h 0 x refl) in
    let rest : xs ≡ ys = same_lists xs ys (omega (arith, e)) (λ k z t. h (suc k) z t) in
    λ i. sym first i ∷ rest i

module _ (f : Formula) (lines more : List Line) (accepted : AreAccepted f lines) (hints : AllButLastAreHints lines) (trimmed : AreTrimmed (length f.clauses) lines more) where
  abbrev n : ℕ
  n = length f.clauses

  abbrev ps : List ℕ
  ps = trimmed.places

  holds : (k : ℕ) → k < length lines → Contains ps k
  holds k l = (trimmed.exactly k).1 (all_needed lines hints (length lines) k (omega arith) l)

  only_these : (k : ℕ) → Contains ps k → k < length lines
  only_these k h = needed_within lines k ((trimmed.exactly k).0 h)

  place_is : (k : ℕ) → k < length lines → slice_get ps k ≡ Some k
  place_is = in_place ps (length lines) trimmed.rising holds only_these

  number_same : (k h : ℕ) → k < length lines → 1 ≤ h → h ≤ n + k + 1 → new_number n ps h ≡ h
  number_same k h l some le = elim (cases_lt n h) [
    | inr low ↦ of_clause n ps h low
    | inl high ↦ (
        let j = h - n - 1 in
        let e : h ≡ n + j + 1 = omega (arith, high) in
        of_lemma n ps trimmed.rising h j j e (place_is j (omega (arith, le, l, high))) ∙ sym e)
  ]

  stays_at : (k : ℕ) (line : Line) → slice_get more k ≡ Some line → slice_get lines k ≡ Some line
  stays_at k line there =
      let z = zip_right n ps ps lines more trimmed.from k line there in
      let p = z.0 in
      let from = z.2 in
      let l : k < length lines = (let i = slice_get_within more k line there in let a = count ps (length lines) trimmed.rising holds only_these in let b = zip_long n ps ps lines more trimmed.from in omega (arith, i, a, b)) in
      let same : p ≡ k = same_Some p k (sym z.1 ∙ place_is k l) in
      let got : slice_get lines k ≡ Some from.old = ap (slice_get lines) (sym same) ∙ from.there in
      let a = accepted_at f lines accepted k from.old got in
      let c = earlier f lines accepted k from.old got in
      let num = a.numbered in
      let id : line.id ≡ from.old.id = from.renumbered.id ∙ number_same k from.old.id l (omega (arith, num)) (omega (arith, num, c)) in
      let hs : line.hints ≡ from.old.hints = from.renumbered.hints ∙ map_same (new_number n ps) from.old.hints (λ i d m. let h = a.named.hints i d m in number_same k (get_or from.old.hints i d) l h.0 (let b = h.1 in omega (arith, b, c))) in
      let whole : from.old ≡ line = λ i. record { id = sym id i; lits = sym from.renumbered.lemma i; hints = sym hs i } in
      got ∙ ap Some whole

  pub again : more ≡ lines
  again = same_lists more lines (let a = count ps (length lines) trimmed.rising holds only_these in let b = zip_long n ps ps lines more trimmed.from in omega (arith, a, b)) stays_at
