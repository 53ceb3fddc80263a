-- Each line that is left, but the last, is a hint of a later one.
use Rattle.std.proofs.Common.{◌≡◌, ℕ, zero, suc, ◌+◌, ◌<◌, List, [], ◌∷◌, map, length, get_or, refl, sym, ◌∙◌, ap, subst, inl, inr, arith, Some}
use Rattle.std.specs.Prelude.{Contains, slice_get}
use Rattle.std.specs.List.{AllZip}
use Rattle.std.proofs.lemmas.Bool.{cases_lt}
use Rattle.std.proofs.lemmas.List.{get_or-map, length-map}
use Rattle.std.proofs.lemmas.List.Elements.{Contains-get_or}
use Rattle.std.proofs.lemmas.Option.{slice_get_within, get_or_from_slice_get, slice_get-get_or, same_Some, none-some}
use Rattle.cnf_core.specs.Formula.{Formula}
use Rattle.cnf_core.specs.Refutation.{AreAccepted}
use Rattle.cnf_core.specs.declared.line.Line.{Line}
use Rattle.refute_trim.specs.Needed.{IsNeeded, IsHintOf, last, hint}
use Rattle.refute_trim.specs.Trimmed.{AreTrimmed, AllButLastAreHints, IsLineFrom, new_number}
use Rattle.refute_trim.proofs.Accepted.{hint_earlier}

-- ---- the lines that are left, beside their places

pub zip_left : (n : ℕ) (ps all : List ℕ) (lines new : List Line) → AllZip (IsLineFrom n all lines) ps new → (k p : ℕ) → slice_get ps k ≡ Some p → (line : Line) × (slice_get new k ≡ Some line) × IsLineFrom n all lines p line
zip_left n [] all lines new h k p e = absurd (none-some p e)
zip_left n (q ∷ ps) all lines [] h k p e = absurd h
zip_left n (q ∷ ps) all lines (l ∷ new) h zero p e = (l, refl, subst (λ r. IsLineFrom n all lines r l) (same_Some q p e) h.0)
zip_left n (q ∷ ps) all lines (l ∷ new) h (suc k) p e = zip_left n ps all lines new h.1 k p e

pub zip_right : (n : ℕ) (ps all : List ℕ) (lines new : List Line) → AllZip (IsLineFrom n all lines) ps new → (k : ℕ) (line : Line) → slice_get new k ≡ Some line → (p : ℕ) × (slice_get ps k ≡ Some p) × IsLineFrom n all lines p line
zip_right n [] all lines [] h k line e = absurd (none-some line e)
zip_right n [] all lines (l ∷ new) h k line e = absurd h
zip_right n (p ∷ ps) all lines [] h k line e = absurd h
zip_right n (p ∷ ps) all lines (l ∷ new) h zero line e = (p, refl, subst (IsLineFrom n all lines p) (same_Some l line e) h.0)
zip_right n (p ∷ ps) all lines (l ∷ new) h (suc k) line e = zip_right n ps all lines new h.1 k line e

pub zip_long : (n : ℕ) (ps all : List ℕ) (lines new : List Line) → AllZip (IsLineFrom n all lines) ps new → length ps ≡ length new
zip_long n [] all lines [] h = refl
zip_long n [] all lines (l ∷ new) h = absurd h
zip_long n (p ∷ ps) all lines [] h = absurd h
zip_long n (p ∷ ps) all lines (l ∷ new) h = ap suc (zip_long n ps all lines new h.1)

pub needed_within : (lines : List Line) (k : ℕ) → IsNeeded lines k → k < length lines
needed_within lines k (last e) = omega (arith, e)
needed_within lines k (hint n h) = slice_get_within lines k h.hinted h.hinted_there

contains_mapped : (f : ℕ → ℕ) (xs : List ℕ) (x : ℕ) → Contains xs x → Contains (map f xs) (f x)
contains_mapped f xs x (k, l, e) =
    let count = length-map xs f in
    (k, omega (arith, l, count), get_or-map f xs k x (f x) l ∙ ap f e)

module _ (f : Formula) (lines new : List Line) (accepted : AreAccepted f lines) (trimmed : AreTrimmed (length f.clauses) lines new) where
  abbrev n : ℕ
  n = length f.clauses

  pub place_needed : (k p : ℕ) → slice_get trimmed.places k ≡ Some p → IsNeeded lines p
  place_needed k p e = (trimmed.exactly p).0 (subst (Contains trimmed.places) (get_or_from_slice_get trimmed.places k p p e) (Contains-get_or trimmed.places k p (slice_get_within trimmed.places k p e)))

  pub rises : (i j p q : ℕ) → slice_get trimmed.places i ≡ Some p → slice_get trimmed.places j ≡ Some q → i < j → p < q
  rises i j p q ei ej l =
      let r = trimmed.rising i j 0 l (slice_get_within trimmed.places j q ej) in
      let a = get_or_from_slice_get trimmed.places i p 0 ei in
      let b = get_or_from_slice_get trimmed.places j q 0 ej in
      omega (arith, r, a, b)

  -- a greater place stands later
  pub later_place : (i j p q : ℕ) → slice_get trimmed.places i ≡ Some p → slice_get trimmed.places j ≡ Some q → p < q → i < j
  later_place i j p q ei ej l = elim (cases_lt i j) [
    | inl lt ↦ lt
    | inr le ↦ elim (cases_lt j i) [
      | inl gt ↦ absurd (let r = rises j i q p ej ei gt in omega (arith, r, l))
      | inr ge ↦ absurd (
          let same : j ≡ i = omega (arith, le, ge) in
          let one : q ≡ p = same_Some q p (sym ej ∙ ap (slice_get trimmed.places) same ∙ ei) in
          omega (arith, one, l))
    ]
  ]

  abbrev Later : ℕ → Line → Type 0
  Later k line = (m : ℕ) × (later : Line) × (k < m) × (slice_get new m ≡ Some later) × Contains later.hints line.id

  of_hint : (k : ℕ) (line : Line) (p q : ℕ) → slice_get trimmed.places k ≡ Some p → IsLineFrom n trimmed.places lines p line → IsNeeded lines q → IsHintOf lines p q → Later k line
  of_hint k line p q at from needed h =
      let c = (trimmed.exactly q).1 needed in
      let there : slice_get trimmed.places c.0 ≡ Some q = slice_get-get_or trimmed.places c.0 q c.1 ∙ ap Some c.2 in
      let z = zip_left n trimmed.places trimmed.places lines new trimmed.from c.0 q there in
      let other = z.2 in
      let same_hinted : h.hinted ≡ from.old = same_Some h.hinted from.old (sym h.hinted_there ∙ from.there) in
      let same_hinting : h.hinting ≡ other.old = same_Some h.hinting other.old (sym h.hinting_there ∙ other.there) in
      let among : Contains (map (new_number n trimmed.places) h.hinting.hints) (new_number n trimmed.places h.hinted.id) = contains_mapped (new_number n trimmed.places) h.hinting.hints h.hinted.id h.among in
      let hints : map (new_number n trimmed.places) h.hinting.hints ≡ z.0.hints = ap (λ (l : Line). map (new_number n trimmed.places) l.hints) same_hinting ∙ sym other.renumbered.hints in
      let id : new_number n trimmed.places h.hinted.id ≡ line.id = ap (λ (l : Line). new_number n trimmed.places l.id) same_hinted ∙ sym from.renumbered.id in
      (c.0, z.0, later_place k c.0 p q at there (hint_earlier f lines accepted p q h), z.1, subst (Contains z.0.hints) id (subst (λ xs. Contains xs (new_number n trimmed.places h.hinted.id)) hints among))

  by_need : (k : ℕ) (line : Line) (p : ℕ) → slice_get trimmed.places k ≡ Some p → IsLineFrom n trimmed.places lines p line → k + 1 < length new → IsNeeded lines p → Later k line
  by_need k line p at from more (last e) = absurd (
      let long = zip_long n trimmed.places trimmed.places lines new trimmed.from in
      let q = get_or trimmed.places (k + 1) 0 in
      let there : slice_get trimmed.places (k + 1) ≡ Some q = slice_get-get_or trimmed.places (k + 1) 0 (omega (arith, more, long)) in
      let r = rises k (k + 1) p q at there (omega arith) in
      let w = needed_within lines q (place_needed (k + 1) q there) in
      omega (arith, e, r, w))
  by_need k line p at from more (hint {j} {k = q} needed h) = of_hint k line p q at from needed h

  pub all_but_last : AllButLastAreHints new
  all_but_last k line e more =
      let z = zip_right n trimmed.places trimmed.places lines new trimmed.from k line e in
      by_need k line z.0 z.1 z.2 more (place_needed k z.0 z.1)
