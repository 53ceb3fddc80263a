-- Where launches of a row may go, by the sets that have pins.
use Rattle.std.proofs.Common.{◌≡◌, ℕ, suc, ◌+◌, ◌*◌, ◌<◌, take, get_or, Bool, true, false, cond, List, ◌∷◌, [], length, map, Option, Some, None, refl, sym, ap, ◌∙◌, arith, inl, inr}
use Rattle.std.specs.Prelude.{◌&&◌, ◌==◌, is_some, slice_get, option_and_then}
use Rattle.std.specs.Option.{option_map_or}
use Rattle.std.specs.List.{filter, count_by, sum_by}
use Rattle.std.proofs.lemmas.Bool.{cases_Bool, false≢true}
use Rattle.std.proofs.lemmas.List.{take_more}
use Rattle.std.proofs.lemmas.Option.{slice_get-get_or}
use Rattle.std.proofs.lemmas.List.Sums.{sum_by-cons, sum_by-append, length-filter}
use Rattle.machine_table.specs.declared.tables.InstrKind.{InstrKind}
use Rattle.graph_meaning.specs.declared.graphs.LaunchGraph.{LaunchGraph}
use Rattle.graph_meaning.specs.declared.graphs.SetClass.{SetClass}
use Rattle.schedule_meaning.specs.Launches.{instr_at, class_at, gives_word, pin_of, plain}
use Rattle.schedule_meaning.specs.declared.schedules.Operand.{Operand}
use Rattle.schedule_meaning.specs.declared.schedules.Allocation.{Allocation}
use Rattle.schedule_meaning.specs.declared.schedules.To.{To}
use Rattle.schedule_meaning.specs.declared.schedules.To.TheVariants.{Pool, Set}
use Rattle.cycle_encoding.specs.Variables.{takes, takes_pin, set_numbers, destinations, pinned_sets}
use Rattle.cycle_encoding.specs.Counts.{one_if}
use Rattle.cycle_encoding.specs.Counts.{row_destinations}
use Rattle.cycle_encoding.proofs.Launched.{size-map}
use Rattle.cycle_encoding.proofs.Totals.{sum-map, size-ones}

-- a test that only passes where another does
fails : (a b : Bool) → (a ≡ true → b ≡ true) → b ≡ false → a ≡ false
fails true b h f = absurd (false≢true (sym f ∙ h refl))
fails false b h f = refl

pub filter_less : {X : Type 0} (p q : X → Bool) (xs : List X) → ((x : X) → p x ≡ true → q x ≡ true) → filter p (filter q xs) ≡ filter p xs
filter_less p q [] h = refl
filter_less {X} p q (x ∷ xs) h =
    elim (cases_Bool (q x)) [
      | inl t ↦
          ap (λ (b : Bool). filter p (cond b (x ∷ filter q xs) (filter q xs))) t
          ∙ ap (λ (ys : List X). cond (p x) (x ∷ ys) ys) (filter_less p q xs h)
      | inr f ↦
          ap (λ (b : Bool). filter p (cond b (x ∷ filter q xs) (filter q xs))) f
          ∙ filter_less p q xs h
          ∙ sym (ap (λ (b : Bool). cond b (x ∷ filter p xs) (filter p xs)) (fails (p x) (q x) (h x) f))
    ]

module _ (g : LaunchGraph) (allocation : Allocation) (i : InstrKind) (class : ℕ) where
  has_pin : (b : Bool) (o : Option ℕ) → (b && option_map_or (takes_pin g allocation i) o false) ≡ true → is_some o ≡ true
  has_pin true None h = absurd (let f : false ≡ true = h in cc)
  has_pin false None h = absurd (let f : false ≡ true = h in cc)
  has_pin b (Some r) h = refl

  is_pinned : (o : Option SetClass) → option_map_or (λ (s : SetClass). (s.class == class) && option_map_or (takes_pin g allocation i) s.pin false) o false ≡ true → is_some (option_and_then (λ (s : SetClass). s.pin) o) ≡ true
  is_pinned None h = absurd (let f : false ≡ true = h in cc)
  is_pinned (Some s) h = has_pin (s.class == class) s.pin h

  -- a set that takes a word has a pin
  pub takers : filter (takes g allocation i class) (pinned_sets g) ≡ filter (takes g allocation i class) (set_numbers g)
  takers = filter_less (takes g allocation i class) (λ j. is_some (pin_of g (Set j))) (set_numbers g) (λ j h. is_pinned (slice_get g.sets j) h)

-- a sum over those that pass
pub sum_kept : {X : Type 0} (p : X → Bool) (f : X → ℕ) (xs : List X) → sum_by f (filter p xs) ≡ sum_by (λ x. one_if (p x) * f x) xs
sum_kept p f [] = refl
sum_kept {X} p f (x ∷ xs) =
    let s = sum_by-cons (λ x. one_if (p x) * f x) x xs in
    elim (cases_Bool (p x)) [
      | inl t ↦
          (let one : one_if (p x) * f x ≡ f x = ap (λ b. one_if b * f x) t ∙ (let z : 1 * f x ≡ f x = omega arith in z) in
          ap (λ (b : Bool). sum_by f (cond b (x ∷ filter p xs) (filter p xs))) t ∙ sum_by-cons f x (filter p xs)
          ∙ ap (λ n. f x + n) (sum_kept p f xs) ∙ ap (λ n. n + sum_by (λ x. one_if (p x) * f x) xs) (sym one) ∙ sym s)
      | inr n ↦
          (let zero' : one_if (p x) * f x ≡ 0 = ap (λ b. one_if b * f x) n ∙ (let z : 0 * f x ≡ 0 = omega arith in z) in
          ap (λ (b : Bool). sum_by f (cond b (x ∷ filter p xs) (filter p xs))) n ∙ sum_kept p f xs
          ∙ (let z : sum_by (λ x. one_if (p x) * f x) xs ≡ 0 + sum_by (λ x. one_if (p x) * f x) xs = omega arith in z)
          ∙ ap (λ m. m + sum_by (λ x. one_if (p x) * f x) xs) (sym zero') ∙ sym s)
    ]

module _ (g : LaunchGraph) (allocation : Allocation) (row : ℕ) where
  abbrev places_of : Option InstrKind → List To
  places_of o = option_map_or (λ i. destinations g allocation i row) o []

  given : (i : InstrKind) (b : Bool) → gives_word i ≡ b → destinations g allocation i row ≡ Pool ∷ cond b (map Set (filter (takes g allocation i (class_at g row)) (set_numbers g))) []
  given i b e = ap (λ (b : Bool). Pool ∷ cond b (map Set (filter (takes g allocation i (class_at g row)) (set_numbers g))) []) e

  pub places_are : (i : InstrKind) → instr_at g row ≡ Some i → gives_word i ≡ true → row_destinations g allocation row ≡ Pool ∷ map Set (filter (takes g allocation i (class_at g row)) (pinned_sets g))
  places_are i e w = ap places_of e ∙ given i true w ∙ ap (λ (js : List ℕ). Pool ∷ map Set js) (sym (takers g allocation i (class_at g row)))

  pub only_pool : (i : InstrKind) → instr_at g row ≡ Some i → gives_word i ≡ false → row_destinations g allocation row ≡ Pool ∷ []
  only_pool i e w = ap places_of e ∙ given i false w

  pub no_place : instr_at g row ≡ None → row_destinations g allocation row ≡ []
  no_place e = ap places_of e

  pub count_is : (i : InstrKind) → instr_at g row ≡ Some i → gives_word i ≡ true → length (row_destinations g allocation row) ≡ 1 + count_by (takes g allocation i (class_at g row)) (pinned_sets g)
  count_is i e w =
      ap (λ (ts : List To). length ts) (places_are i e w)
      ∙ (let m = size-map Set (filter (takes g allocation i (class_at g row)) (pinned_sets g)) ∙ length-filter (takes g allocation i (class_at g row)) (pinned_sets g) in
      let s : length (Pool ∷ map Set (filter (takes g allocation i (class_at g row)) (pinned_sets g))) ≡ suc (length (map Set (filter (takes g allocation i (class_at g row)) (pinned_sets g)))) = refl in
      omega (arith, m, s))

  pub count_one : (i : InstrKind) → instr_at g row ≡ Some i → gives_word i ≡ false → length (row_destinations g allocation row) ≡ 1
  count_one i e w = ap (λ (ts : List To). length ts) (only_pool i e w)

  pub count_none : instr_at g row ≡ None → length (row_destinations g allocation row) ≡ 0
  count_none e = ap (λ (ts : List To). length ts) (no_place e)

  pub sum_ones : sum_by (λ (to : To). 1) (row_destinations g allocation row) ≡ length (row_destinations g allocation row)
  sum_ones = sym (size-ones (row_destinations g allocation row))

  -- a sum over all destinations
  module _ (f : To → ℕ) where
    pub sum_all : (i : InstrKind) → instr_at g row ≡ Some i → gives_word i ≡ true → sum_by f (row_destinations g allocation row) ≡ f Pool + sum_by (λ j. one_if (takes g allocation i (class_at g row) j) * f (Set j)) (pinned_sets g)
    sum_all i e w =
        ap (sum_by f) (places_are i e w)
        ∙ sum_by-cons f Pool (map Set (filter (takes g allocation i (class_at g row)) (pinned_sets g)))
        ∙ ap (λ n. f Pool + n) (sum-map f Set (filter (takes g allocation i (class_at g row)) (pinned_sets g)) ∙ sum_kept (takes g allocation i (class_at g row)) (λ j. f (Set j)) (pinned_sets g))

    pub sum_pool : (i : InstrKind) → instr_at g row ≡ Some i → gives_word i ≡ false → sum_by f (row_destinations g allocation row) ≡ f Pool
    sum_pool i e w = ap (sum_by f) (only_pool i e w) ∙ sum_by-cons f Pool [] ∙ (let z : f Pool + 0 ≡ f Pool = omega arith in z)

    pub sum_none : instr_at g row ≡ None → sum_by f (row_destinations g allocation row) ≡ 0
    sum_none e = ap (sum_by f) (no_place e)

-- one more operand
pub need_more : (t : Operand → Bool) (os : List Operand) (at : ℕ) → at < length os → count_by t (take (at + 1) os) ≡ count_by t (take at os) + option_map_or (λ o. one_if (t o)) (slice_get os at) 0
need_more t os at lt =
    let last = get_or os at (plain 0) in
    let a = ap (count_by t) (take_more os at (plain 0) lt) ∙ sum_by-append (λ o. one_if (t o)) (take at os) (last ∷ []) in
    let b = sum_by-cons (λ o. one_if (t o)) last [] in
    let c = ap (λ o. option_map_or (λ o. one_if (t o)) o 0) (slice_get-get_or os at (plain 0) lt) in
    omega arith
