-- How many destinations of a row are a set or the pool.
use Rattle.std.proofs.Common.{◌≡◌, ℕ, ◌+◌, ◌*◌, ◌<◌, Bool, true, false, List, [], length, map, Option, Some, None, refl, sym, ap, ◌∙◌, subst, arith, inl, inr}
use Rattle.std.specs.Prelude.{◌==◌, ◌&&◌, slice_get}
use Rattle.std.specs.Option.{option_map_or}
use Rattle.std.specs.List.{filter, list_any, count_by, sum_by}
use Rattle.std.proofs.lemmas.Bool.{cases_Bool, eq-eqb, eqb-true, false≢true, false_from_ne_true}
use Rattle.std.proofs.lemmas.List.Sums.{sum_by-cons}
use Rattle.machine_table.specs.declared.tables.InstrKind.{InstrKind}
use Rattle.graph_meaning.specs.declared.graphs.LaunchGraph.{LaunchGraph}
use Rattle.graph_meaning.specs.declared.graphs.SetClass.{SetClass}
use Rattle.schedule_meaning.specs.Launches.{instr_at, class_at, gives_word, is_set, is_pool}
use Rattle.schedule_meaning.specs.declared.schedules.Allocation.{Allocation}
use Rattle.schedule_meaning.specs.declared.schedules.To.{To}
use Rattle.schedule_meaning.specs.declared.schedules.To.TheVariants.{Pool, Set}
use Rattle.cycle_encoding.specs.Counts.{one_if, row_is}
use Rattle.cycle_encoding.specs.Variables.{takes, takes_pin, set_numbers, pinned_sets}
use Rattle.cycle_encoding.specs.Counts.{row_destinations}
use Rattle.cycle_encoding.proofs.Tables.{got_is}
use Rattle.cycle_encoding.proofs.Members.{filter-in, filter-out, filter-once, range-in, range-once}
use Rattle.cycle_encoding.proofs.Tests.{some_in, some_of}
use Rattle.cycle_encoding.proofs.Totals.{sum-map, sum-const, count-this}
use Rattle.cycle_encoding.proofs.RowPlaces.{takers, places_are, only_pool, no_place}

module _ (g : LaunchGraph) (allocation : Allocation) (i : InstrKind) (class j : ℕ) where
  there : (o : Option SetClass) → slice_get g.sets j ≡ o → option_map_or (λ (s : SetClass). (s.class == class) && option_map_or (takes_pin g allocation i) s.pin false) o false ≡ true → j < length g.sets
  there None e h = absurd (false≢true h)
  there (Some s) e h = (got_is g.sets j s e).0

  among : list_any (λ n. n == j) (filter (takes g allocation i class) (pinned_sets g)) ≡ takes g allocation i class j
  among =
      ap (λ (ns : List ℕ). list_any (λ n. n == j) ns) (takers g allocation i class)
      ∙ elim (cases_Bool (takes g allocation i class j)) [
        | inl t ↦
            some_in (λ n. n == j) (filter (takes g allocation i class) (set_numbers g)) j
            (filter-in (takes g allocation i class) (set_numbers g) j (range-in 0 (length g.sets) j (omega arith) (let lt = there (slice_get g.sets j) refl t in omega arith)) t)
            (eq-eqb j j refl) ∙ sym t
        | inr f ↦
            false_from_ne_true (list_any (λ n. n == j) (filter (takes g allocation i class) (set_numbers g))) (λ t.
            let m = some_of (λ n. n == j) (filter (takes g allocation i class) (set_numbers g)) t in
            let e : m.0 ≡ j = eqb-true m.0 j m.2 in
            let p = (filter-out (takes g allocation i class) (set_numbers g) m.0 m.1).1 in
            false≢true (sym f ∙ subst (λ n. takes g allocation i class n ≡ true) e p)) ∙ sym f
      ]

  count_takers : count_by (λ n. n == j) (filter (takes g allocation i class) (pinned_sets g)) ≡ one_if (takes g allocation i class j)
  count_takers =
      ap (λ (ns : List ℕ). count_by (λ n. n == j) ns) (takers g allocation i class)
      ∙ count-this (filter (takes g allocation i class) (set_numbers g)) j (filter-once (takes g allocation i class) (set_numbers g) (range-once 0 (length g.sets)))
      ∙ ap (λ (ns : List ℕ). one_if (list_any (λ n. n == j) ns)) (sym (takers g allocation i class))
      ∙ ap one_if among

module _ (g : LaunchGraph) (allocation : Allocation) (row : ℕ) where
  module _ (j : ℕ) where
    pub goes_is : (i : InstrKind) → instr_at g row ≡ Some i → gives_word i ≡ true → sum_by (λ to. one_if (is_set j to)) (row_destinations g allocation row) ≡ one_if (takes g allocation i (class_at g row) j)
    goes_is i e w =
        let ns = filter (takes g allocation i (class_at g row)) (pinned_sets g) in
        ap (sum_by (λ to. one_if (is_set j to))) (places_are g allocation row i e w)
        ∙ sum_by-cons (λ to. one_if (is_set j to)) Pool (map Set ns)
        ∙ (let a : sum_by (λ to. one_if (is_set j to)) (map Set ns) ≡ one_if (takes g allocation i (class_at g row) j) = sum-map (λ to. one_if (is_set j to)) Set ns ∙ count_takers g allocation i (class_at g row) j in omega (arith, a))

    pub goes_not : (i : InstrKind) → instr_at g row ≡ Some i → gives_word i ≡ false → sum_by (λ to. one_if (is_set j to)) (row_destinations g allocation row) ≡ 0
    goes_not i e w = ap (sum_by (λ to. one_if (is_set j to))) (only_pool g allocation row i e w) ∙ sum_by-cons (λ to. one_if (is_set j to)) Pool []

    pub goes_none : instr_at g row ≡ None → sum_by (λ to. one_if (is_set j to)) (row_destinations g allocation row) ≡ 0
    goes_none e = ap (sum_by (λ to. one_if (is_set j to))) (no_place g allocation row e)

  -- the pool, where the row gives a word
  abbrev pooled : Bool → To → ℕ
  pooled w to = one_if (is_pool to && w)

  no_more : (w : Bool) (ns : List ℕ) → sum_by (pooled w) (map Set ns) ≡ 0
  no_more w ns = sum-map (pooled w) Set ns ∙ sum-const 0 ns ∙ (let z : length ns * 0 ≡ 0 = omega arith in z)

  of_instr : (o : Option InstrKind) → instr_at g row ≡ o → (w : Bool) → sum_by (pooled w) (row_destinations g allocation row) ≡ option_map_or (λ i. one_if w) o 0
  of_instr None e w = ap (sum_by (pooled w)) (no_place g allocation row e)
  of_instr (Some i) e w =
      elim (cases_Bool (gives_word i)) [
        | inl t ↦
            (let ns = filter (takes g allocation i (class_at g row)) (pinned_sets g) in
            let a = no_more w ns in
            ap (sum_by (pooled w)) (places_are g allocation row i e t) ∙ sum_by-cons (pooled w) Pool (map Set ns) ∙ omega (arith, a))
        | inr f ↦
            ap (sum_by (pooled w)) (only_pool g allocation row i e f) ∙ sum_by-cons (pooled w) Pool [] ∙ (let z : one_if w + 0 ≡ one_if w = omega arith in z)
      ]

  in_row : (o : Option InstrKind) → option_map_or (λ i. one_if (option_map_or gives_word o false)) o 0 ≡ one_if (option_map_or gives_word o false)
  in_row None = refl
  in_row (Some i) = refl

  pub pool_all : sum_by (λ to. one_if (is_pool to && row_is g gives_word row)) (row_destinations g allocation row) ≡ one_if (row_is g gives_word row)
  pool_all = of_instr (instr_at g row) refl (row_is g gives_word row) ∙ in_row (instr_at g row)
