-- Pins that stand once in a list are those of sets that have them alone.
use Rattle.std.proofs.Common.{◌≡◌, ◌≢◌, ℕ, zero, suc, ◌+◌, ◌<◌, Option, Some, None, List, [], ◌∷◌, ◌++◌, length, filter_map, get_or, refl, sym, ◌∙◌, subst, arith, All, AllPairs, Contains}
use Rattle.std.specs.Prelude.{IfSome}
use Rattle.std.specs.List.{cons_option}
use Rattle.std.proofs.lemmas.List.{length-append, get_or_append_left, get_or-append-add}
use Rattle.std.proofs.lemmas.List.Elements.{All-contains}
use Rattle.std.proofs.lemmas.List.Kept.{AllPairs-cons}
use Rattle.graph_meaning.specs.Graphs.{HaveOwnPins}
use Rattle.graph_meaning.specs.declared.graphs.SetClass.{SetClass}

abbrev pub pins_among : List SetClass → List ℕ
pins_among sets = filter_map (λ (c : SetClass). c.pin) sets

abbrev Differ : List ℕ → Type 0
Differ rs = AllPairs (λ a b. a ≢ b) rs

-- a register of one list is none of the other
pairs_clash : (xs ys : List ℕ) → Differ (xs ++ ys) → (r : ℕ) → Contains xs r → Contains ys r → ⊥
pairs_clash xs ys h r a b =
    let low = a.1 in
    let less = b.1 in
    let size = length-append xs ys in
    h a.0 (length xs + b.0) r (omega (arith, low)) (omega (arith, less, size)) (get_or_append_left xs ys r a.0 a.1 ∙ a.2 ∙ sym b.2 ∙ sym (get_or-append-add xs ys b.0 r))

-- ---- a set's pin is among the pins
behind : (o : Option ℕ) (rs : List ℕ) (r : ℕ) → Contains rs r → Contains (cons_option o rs) r
behind None rs r h = h
behind (Some q) rs r h = let low = h.1 in (suc h.0, omega (arith, low), h.2)

first : (o : Option ℕ) (rs : List ℕ) (r : ℕ) → o ≡ Some r → Contains (cons_option o rs) r
first o rs r e = subst (λ x. Contains (cons_option x rs) r) (sym e) (0, omega arith, refl)

contains_pin : (sets : List SetClass) (k : ℕ) (d : SetClass) (r : ℕ) → k < length sets → (get_or sets k d).pin ≡ Some r → Contains (pins_among sets) r
contains_pin [] k d r l e = absurd (omega (arith, l))
contains_pin (c ∷ sets) zero d r l e = first c.pin (pins_among sets) r e
contains_pin (c ∷ sets) (suc k) d r l e = behind c.pin (pins_among sets) r (contains_pin sets k d r (omega (arith, l)) e)

-- ---- what holds of the sets
abbrev Apart : SetClass → SetClass → Type 0
Apart s t = (r : ℕ) → s.pin ≡ Some r → t.pin ≢ Some r

later : (o : Option ℕ) (rs : List ℕ) → Differ (cons_option o rs) → Differ rs
later None rs h = h
later (Some q) rs h = λ i j d l m. h (suc i) (suc j) d (omega (arith, l)) (omega (arith, m))

first_apart : (o : Option ℕ) (rs : List ℕ) → Differ (cons_option o rs) → (r : ℕ) → o ≡ Some r → Contains rs r → ⊥
first_apart o rs h r e there = pairs_clash (r ∷ []) rs (subst (λ x. Differ (cons_option x rs)) e h) r (0, omega arith, refl) there

pub own_pins_of : (sets : List SetClass) → Differ (pins_among sets) → HaveOwnPins sets
own_pins_of [] h = λ i j d l m. absurd (omega (arith, m))
own_pins_of (c ∷ sets) h =
    AllPairs-cons Apart c sets (λ k d l r e f. first_apart c.pin (pins_among sets) h r e (contains_pin sets k d r l f))
    (own_pins_of sets (later c.pin (pins_among sets) h))

module _ (P : ℕ → Type 0) (sets : List SetClass) (each : (r : ℕ) → Contains (pins_among sets) r → P r) where
  if_pinned : (k : ℕ) (d : SetClass) → k < length sets → (o : Option ℕ) → (get_or sets k d).pin ≡ o → IfSome o P
  if_pinned k d l None e = tt
  if_pinned k d l (Some r) e = each r (contains_pin sets k d r l e)

  each_pinned : All (λ (c : SetClass). IfSome c.pin P) sets
  each_pinned k d l = if_pinned k d l (get_or sets k d).pin refl

pub low_pins_of : (sets : List SetClass) → All (λ r. r < 31) (pins_among sets) → All (λ (c : SetClass). IfSome c.pin (λ r. r < 31)) sets
low_pins_of sets low = each_pinned (λ r. r < 31) sets (λ r there. All-contains (λ r. r < 31) (pins_among sets) r low there)

pub pins_apart_of : (pool : List ℕ) (sets : List SetClass) → Differ (pool ++ pins_among sets) → All (λ (c : SetClass). IfSome c.pin (λ r. ¬ Contains pool r)) sets
pins_apart_of pool sets h = each_pinned (λ r. ¬ Contains pool r) sets (λ r there among. pairs_clash pool (pins_among sets) h r among there)

pub differ_behind : (xs ys : List ℕ) → Differ (xs ++ ys) → Differ ys
differ_behind [] ys h = h
differ_behind (x ∷ xs) ys h = differ_behind xs ys (λ i j d l m. h (suc i) (suc j) d (omega (arith, l)) (omega (arith, m)))
