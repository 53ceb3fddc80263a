-- The list of free variables: the loop that makes it, and what is known of its members.
use Rattle.std.proofs.Common.{◌≡◌, ℕ, ◌+◌, ◌-◌, ◌<◌, ◌≤◌, Bool, true, false, List, [], ◌∷◌, ◌++◌, length, map, get_or, refl, sym, ap, ◌∙◌, arith, inl, inr, suc, zero, Option, Some, None, append-nil}
use Rattle.std.specs.Prelude.{is_none}
use Rattle.std.specs.List.{All, filter, range_with_len}
use Rattle.std.proofs.lemmas.Bool.{cases_Bool, cond-true, cond-false, false≢true}
use Rattle.std.proofs.lemmas.List.{get_or-map}
use Rattle.std.proofs.lemmas.List.Elements.{All-filter, All-map, filter_passes}
use Rattle.std.proofs.lemmas.List.FromFn.{filter_of_map_range_with_len_more, get_or-range_with_len, length-range_with_len, length-map-range_with_len}
use Rattle.sat_core.specs.declared.trail.Value.{Value}
use Rattle.sat_core.specs.declared.trail.Value.TheVariants.{Unassigned}
use Rattle.sat_core.specs.Steps.{is_unassigned, assignment_of}
use Rattle.sat_core.specs.Picks.{free_list}

none-true : (o : Option Bool) → is_none o ≡ true → o ≡ None
none-true None e = refl
none-true (Some b) e = absurd (false≢true e)

-- the free variables up to a place
abbrev pub free_to : List Value → ℕ → List ℕ
free_to values n = filter (λ x. is_none (assignment_of values x)) (map (λ i. i + 1) (range_with_len 0 n))

pub free-more : (values : List Value) (n : ℕ) → is_unassigned (get_or values n Unassigned) ≡ true → free_to values n ++ (n + 1) ∷ [] ≡ free_to values (n + 1)
unfolding assignment_of
free-more values n free =
    let p : ℕ → Bool = λ x. is_unassigned (get_or values (x - 1) Unassigned) in
    let at : n + 1 - 1 ≡ n = omega arith in
    let yes : p (n + 1) ≡ true = ap (λ (i : ℕ). is_unassigned (get_or values i Unassigned)) at ∙ free in
    sym (filter_of_map_range_with_len_more p (λ i. i + 1) 0 n n (omega arith) ∙ ap (λ (ys : List ℕ). free_to values n ++ ys) (cond-true (p (n + 1)) ((n + 1) ∷ []) [] yes))

pub free-keep : (values : List Value) (n : ℕ) → is_unassigned (get_or values n Unassigned) ≡ false → free_to values n ≡ free_to values (n + 1)
unfolding assignment_of
free-keep values n some =
    let p : ℕ → Bool = λ x. is_unassigned (get_or values (x - 1) Unassigned) in
    let at : n + 1 - 1 ≡ n = omega arith in
    let no : p (n + 1) ≡ false = ap (λ (i : ℕ). is_unassigned (get_or values i Unassigned)) at ∙ some in
    sym (filter_of_map_range_with_len_more p (λ i. i + 1) 0 n n (omega arith) ∙ ap (λ (ys : List ℕ). free_to values n ++ ys) (cond-false (p (n + 1)) ((n + 1) ∷ []) [] no) ∙ append-nil (free_to values n))

-- **each variable of the list exists and is free**
pub free-at : (values : List Value) (place d : ℕ) → place < length (free_list values) → (1 ≤ get_or (free_list values) place d) × (get_or (free_list values) place d ≤ length values) × (assignment_of values (get_or (free_list values) place d) ≡ None)
free-at values place d few =
    let p : ℕ → Bool = λ x. is_none (assignment_of values x) in
    let E : ℕ → Type 0 = λ x. (1 ≤ x) × (x ≤ length values) in
    let exist : All E (map (λ i. i + 1) (range_with_len 0 (length values))) =
    All-map E (λ i. i + 1) (range_with_len 0 (length values)) (λ k d' few'.
    let within : k < length values = omega (arith, length-range_with_len 0 (length values)) in
    let is = get_or-range_with_len 0 (length values) k d' within in ((omega arith), (omega arith))) in
    let at = All-filter p E (map (λ i. i + 1) (range_with_len 0 (length values))) exist place d few in
    (at.0, at.1, none-true (assignment_of values (get_or (free_list values) place d)) (filter_passes p (map (λ i. i + 1) (range_with_len 0 (length values))) place d few))

nil≢cons : (x : ℕ) (xs : List ℕ) → x ∷ xs ≡ [] → ⊥
nil≢cons x xs e = (let n = ap length e in absurd (omega arith))

filter-some : (p : ℕ → Bool) (xs : List ℕ) (k d : ℕ) → k < length xs → p (get_or xs k d) ≡ true → filter p xs ≡ [] → ⊥
filter-some p [] k d few h e = absurd (omega (arith, few))
filter-some p (y ∷ ys) zero d few h e = nil≢cons y (filter p ys) (sym (cond-true (p y) (y ∷ filter p ys) (filter p ys) h) ∙ e)
filter-some p (y ∷ ys) (suc k) d few h e =
    elim (cases_Bool (p y)) [
      | inl here ↦ nil≢cons y (filter p ys) (sym (cond-true (p y) (y ∷ filter p ys) (filter p ys) here) ∙ e)
      | inr not ↦ filter-some p ys k d (omega arith) h (sym (cond-false (p y) (y ∷ filter p ys) (filter p ys) not) ∙ e)
    ]

-- **where the list is empty, every variable has a value**
pub none-free : (values : List Value) (x : ℕ) → free_list values ≡ [] → 1 ≤ x → x ≤ length values → assignment_of values x ≡ None → ⊥
none-free values x empty low high free =
    let p : ℕ → Bool = λ y. is_none (assignment_of values y) in
    let xs = map (λ i. i + 1) (range_with_len 0 (length values)) in
    let size = length-map-range_with_len (λ i. i + 1) 0 (length values) in
    let is : get_or xs (x - 1) 0 ≡ x =
    get_or-map (λ i. i + 1) (range_with_len 0 (length values)) (x - 1) 0 0 (omega (arith, length-range_with_len 0 (length values)))
    ∙ ap (λ (i : ℕ). i + 1) (get_or-range_with_len 0 (length values) (x - 1) 0 (omega arith)) ∙ omega arith in
    filter-some p xs (x - 1) 0 (omega arith) (ap p is ∙ ap is_none free) empty
