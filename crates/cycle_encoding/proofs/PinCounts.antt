-- No more sets have pins than there are registers.
use Rattle.std.proofs.Common.{◌≡◌, ℕ, zero, suc, ◌+◌, ◌<◌, ◌≤◌, Bool, true, false, cond, List, [], ◌∷◌, ◌++◌, length, get_or, Option, Some, None, refl, ap, ◌∙◌, subst, arith, inl, inr}
use Rattle.std.specs.Prelude.{◌==◌, nat_lt, is_some, IfSome, slice_get, option_and_then}
use Rattle.std.specs.Option.{option_map_or}
use Rattle.std.specs.List.{filter, count_by, sum_by, range_with_len}
use Rattle.std.proofs.lemmas.Bool.{cases_lt, lt-ltb, ltb-true, eq-eqb, eqb-true}
use Rattle.std.proofs.lemmas.List.Elements.{filter-append}
use Rattle.std.proofs.lemmas.List.Sums.{sum_by-cons, length-filter}
use Rattle.std.proofs.lemmas.List.FromFn.{length-range_with_len, get_or-range_with_len}
use Rattle.graph_meaning.specs.WellFormed.{IsLaunchGraph}
use Rattle.graph_meaning.specs.declared.graphs.LaunchGraph.{LaunchGraph}
use Rattle.graph_meaning.specs.declared.graphs.SetClass.{SetClass}
use Rattle.schedule_meaning.specs.Launches.{pin_of}
use Rattle.schedule_meaning.specs.declared.schedules.To.TheVariants.{Set}
use Rattle.schedule_meaning.proofs.Pins.{same_pin}
use Rattle.cycle_encoding.specs.Variables.{set_numbers, pinned_sets}
use Rattle.cycle_encoding.proofs.Counting.{count-one}
use Rattle.cycle_encoding.proofs.Tables.{got_is}
use Rattle.cycle_encoding.proofs.Rows.{range_more}

abbrev ones : Bool → ℕ
ones b = cond {A = ℕ} b 1 0

-- a sum is no more than two others where each of its parts is
sum_le : {X : Type 0} (f a b : X → ℕ) (xs : List X) → ((x : X) → f x ≤ a x + b x) → sum_by f xs ≤ sum_by a xs + sum_by b xs
sum_le f a b [] h = omega arith
sum_le f a b (x ∷ xs) h =
    let p = sum_by-cons f x xs in
    let q = sum_by-cons a x xs in
    let r = sum_by-cons b x xs in
    let s = h x in
    let t = sum_le f a b xs h in
    omega arith

module _ (pin : ℕ → Option ℕ) (xs : List ℕ) (one : (r : ℕ) → count_by (λ j. option_map_or (λ q. q == r) (pin j) false) xs ≤ 1) where
  abbrev below : ℕ → ℕ → Bool
  below n j = option_map_or (λ q. nat_lt q n) (pin j) false

  number : (n q : ℕ) → ones (nat_lt q (n + 1)) ≤ ones (nat_lt q n) + ones (q == n)
  number n q =
      elim (cases_lt q n) [
        | inl lt ↦ (let a = ap ones (lt-ltb q n lt) in most (nat_lt q (n + 1)) (ones (q == n)) a)
        | inr le ↦ elim (cases_lt n q) [
          | inl more ↦ none' (nat_lt q (n + 1)) refl more
          | inr same ↦ (let e : q ≡ n = omega arith in let a = ap ones (eq-eqb q n e) in last (nat_lt q (n + 1)) (ones (nat_lt q n)) a)
        ]
      ]
    where
      most : (b : Bool) (m : ℕ) → ones (nat_lt q n) ≡ 1 → ones b ≤ ones (nat_lt q n) + m
      most true m e = omega (arith, e)
      most false m e = omega (arith, e)

      last : (b : Bool) (m : ℕ) → ones (q == n) ≡ 1 → ones b ≤ m + ones (q == n)
      last true m e = omega (arith, e)
      last false m e = omega (arith, e)

      none' : (b : Bool) → nat_lt q (n + 1) ≡ b → n < q → ones b ≤ ones (nat_lt q n) + ones (q == n)
      none' true e more = absurd (let lt = ltb-true q (n + 1) e in omega arith)
      none' false e more = omega arith

  in_option : (n : ℕ) (o : Option ℕ) → ones (option_map_or (λ q. nat_lt q (n + 1)) o false) ≤ ones (option_map_or (λ q. nat_lt q n) o false) + ones (option_map_or (λ q. q == n) o false)
  in_option n None = omega arith
  in_option n (Some q) = number n q

  none_below : (ys : List ℕ) → count_by (below 0) ys ≤ 0
  none_below [] = omega arith
  none_below (y ∷ ys) =
      let a = sum_by-cons (λ j. ones (below 0 j)) y ys in
      let b = none_below ys in
      let c : ones (below 0 y) ≡ 0 = no (pin y) in
      omega arith
    where
      no : (o : Option ℕ) → ones (option_map_or (λ q. nat_lt q 0) o false) ≡ 0
      no None = refl
      no (Some q) = no_number (nat_lt q 0) refl
        where
          no_number : (b : Bool) → nat_lt q 0 ≡ b → ones b ≡ 0
          no_number true e = absurd (let lt = ltb-true q 0 e in omega arith)
          no_number false e = refl

  few_below : (n : ℕ) → count_by (below n) xs ≤ n
  few_below zero = none_below xs
  few_below (suc n) =
      let a = sum_le (λ j. ones (below (n + 1) j)) (λ j. ones (below n j)) (λ j. ones (option_map_or (λ q. q == n) (pin j) false)) xs (λ j. in_option n (pin j)) in
      let b = few_below n in
      let c = one n in
      let e : n + 1 ≡ suc n = omega arith in
      let s = ap (λ m. count_by (below m) xs) e in
      omega arith

module _ (g : LaunchGraph) (well : IsLaunchGraph g) where
  has : (o : Option SetClass) (r : ℕ) → option_map_or (λ q. q == r) (option_and_then (λ (s : SetClass). s.pin) o) false ≡ true → (s : SetClass) × (o ≡ Some s) × (s.pin ≡ Some r)
  has None r h = absurd (let f : false ≡ true = h in cc)
  has (Some s) r h = (s, refl, at s.pin h)
    where
      at : (o : Option ℕ) → option_map_or (λ q. q == r) o false ≡ true → o ≡ Some r
      at None h = absurd (let f : false ≡ true = h in cc)
      at (Some q) h = ap Some (eqb-true q r h)

  one_each : (r : ℕ) → count_by (λ j. option_map_or (λ q. q == r) (pin_of g (Set j)) false) (set_numbers g) ≤ 1
  one_each r =
      count-one (λ j. option_map_or (λ q. q == r) (pin_of g (Set j)) false) (set_numbers g) (λ i j d lt len p q.
      let size = length-range_with_len 0 (length g.sets) in
      let a : get_or (set_numbers g) i d ≡ i = get_or-range_with_len 0 (length g.sets) i d (omega arith) ∙ (let z : 0 + i ≡ i = omega arith in z) in
      let b : get_or (set_numbers g) j d ≡ j = get_or-range_with_len 0 (length g.sets) j d (omega arith) ∙ (let z : 0 + j ≡ j = omega arith in z) in
      let s = has (slice_get g.sets i) r (subst (λ n. option_map_or (λ q. q == r) (pin_of g (Set n)) false ≡ true) a p) in
      let t = has (slice_get g.sets j) r (subst (λ n. option_map_or (λ q. q == r) (pin_of g (Set n)) false ≡ true) b q) in
      let e = same_pin g well.own_pins i j r s.0 t.0 s.1 t.1 s.2 t.2 in
      omega (arith, e))

  low : (o : Option ℕ) → IfSome o (λ r. r < 31) → ones (is_some o) ≤ ones (option_map_or (λ q. nat_lt q 31) o false) + 0
  low None h = omega arith
  low (Some r) h = (let a = ap ones (lt-ltb r 31 h) in omega (arith, a))

  low_in : (j : ℕ) (o : Option SetClass) → slice_get g.sets j ≡ o → ones (is_some (option_and_then (λ (s : SetClass). s.pin) o)) ≤ ones (option_map_or (λ q. nat_lt q 31) (option_and_then (λ (s : SetClass). s.pin) o) false) + 0
  low_in j None e = omega arith
  low_in j (Some s) e =
      let at = got_is g.sets j s e in
      low s.pin (subst (λ (s : SetClass). IfSome s.pin (λ r. r < 31)) at.1 (well.pins j s at.0))

  pub few_pins : length (pinned_sets g) ≤ 31
  few_pins =
      let a = length-filter (λ j. is_some (pin_of g (Set j))) (set_numbers g) in
      let b = sum_le (λ j. ones (is_some (pin_of g (Set j)))) (λ j. ones (option_map_or (λ q. nat_lt q 31) (pin_of g (Set j)) false)) (λ j. 0) (set_numbers g) (λ j. low_in j (slice_get g.sets j) refl) in
      let c = few_below (λ j. pin_of g (Set j)) (set_numbers g) one_each 31 in
      let d = nothing (set_numbers g) in
      omega arith
    where
      nothing : (xs : List ℕ) → sum_by (λ (j : ℕ). 0) xs ≡ 0
      nothing [] = refl
      nothing (x ∷ xs) = (let s = sum_by-cons (λ (j : ℕ). 0) x xs in let r = nothing xs in omega arith)

-- one more set
module _ (g : LaunchGraph) (n : ℕ) where
  abbrev has_pin : ℕ → Bool
  has_pin j = is_some (pin_of g (Set j))

  pub pin_more : filter has_pin (range_with_len 0 (n + 1)) ≡ filter has_pin (range_with_len 0 n) ++ cond (has_pin n) (n ∷ []) []
  pin_more = ap (filter has_pin) (range_more n) ∙ filter-append has_pin (range_with_len 0 n) (n ∷ [])
