-- Steps of the counts of registers by live ranges.
use Rattle.std.proofs.Common.{◌≡◌, ℕ, zero, suc, ◌+◌, ◌-◌, ◌*◌, ◌<◌, ◌≤◌, Bool, true, false, cond, List, ◌∷◌, [], length, map, take, get_or, Option, Some, None, refl, sym, ap, ◌∙◌, arith, inl, inr}
use Rattle.std.specs.Prelude.{◌&&◌, ◌==◌, nat_le, nat_lt, option_and_then, option_map, slice_get}
use Rattle.std.specs.Option.{option_map_or}
use Rattle.std.specs.List.{count_by, filter, list_any, range_with_len, sum_by}
use Rattle.std.proofs.lemmas.Bool.{cases_Bool}
use Rattle.std.proofs.lemmas.List.{map-id, take_more}
use Rattle.std.proofs.lemmas.List.Sums.{length-filter, sum_by-append, sum_by-cons}
use Rattle.std.proofs.lemmas.Option.{slice_get-get_or}
use Rattle.std.proofs.lemmas.Nat.{mul-le}
use Rattle.std.proofs.lemmas.List.FromFn.{get_or-map-range_with_len, length-map-range_with_len, length-range_with_len, take-map-range_with_len}
use Rattle.cnf_core.specs.Counter.{at_most_size, at_most_vars}
use Rattle.machine_table.specs.declared.tables.InstrKind.{InstrKind}
use Rattle.machine_table.specs.declared.tables.Table.{Table}
use Rattle.machine_table.specs.declared.tables.Use.{Use}
use Rattle.machine_table.specs.Tables.{latency_of, use_of}
use Rattle.graph_meaning.specs.WellFormed.{IsLaunchGraph, next_class}
use Rattle.graph_meaning.specs.declared.graphs.LaunchGraph.{LaunchGraph}
use Rattle.schedule_meaning.specs.Launches.{class_at, gives_word, instr_at}
use Rattle.cycle_encoding.specs.Counts.{cycles_of, one_if, row_count, row_is, row_use}
use Rattle.cycle_encoding.specs.CycleFormula.{Scope, allocation_in, first_cycle_in}
use Rattle.cycle_encoding.specs.Facts.{class_marked, may_use}
use Rattle.cycle_encoding.specs.Variables.{classes_of, launches_from, slots_of}
use Rattle.cycle_encoding.proofs.Marking.{mark_step}
use Rattle.order_encoding.specs.OrderCounts.{is_pooled_in, row_gives, row_holds}
use Rattle.order_encoding.proofs.LiveListing.{pooled-below}
use Rattle.order_encoding.proofs.LiveSized.{pooled-is}
use Rattle.order_encoding.proofs.NeedSteps.{and_swap}

take_range : (n i : ℕ) → i ≤ n → take i (range_with_len 0 n) ≡ range_with_len 0 i
take_range n i le = ap (take i) (sym (map-id (range_with_len 0 n))) ∙ take-map-range_with_len (λ x. x) 0 n i le ∙ map-id (range_with_len 0 i)

at_range : (n i d : ℕ) → i < n → get_or (range_with_len 0 n) i d ≡ i
at_range n i d lt = ap (λ xs. get_or xs i d) (sym (map-id (range_with_len 0 n))) ∙ get_or-map-range_with_len (λ x. x) 0 n i i d lt (omega arith)

module _ (g : LaunchGraph) (table : Table) (k : ℕ) (s : Scope) (n : ℕ) where
  abbrev gives_to : ℕ → ℕ → Bool
  gives_to c row = row_gives g c row && nat_lt 0 (row_count g table k s row)

  abbrev pub pooled_below : ℕ → List Bool
  pooled_below i = map (λ c. list_any (gives_to c) (range_with_len 0 i)) (range_with_len 0 n)

  by_parts : (gives many : Bool) (class c : ℕ) → ((gives && (class == c)) && many) ≡ ((class == c) && (gives && many))
  by_parts true many class c = refl
  by_parts false many class c = sym (and_swap (class == c) false)

  pub pooled_step : (i class : ℕ) (passes : Bool) (mid new : List Bool) → class ≡ class_at g i → passes ≡ (row_is g gives_word i && nat_lt 0 (row_count g table k s i)) → mid ≡ pooled_below i → new ≡ class_marked mid class passes → new ≡ pooled_below (i + 1)
  pooled_step i class passes mid new ec ep is e =
      let rs : List ℕ = range_with_len 0 (i + 1) in
      let lt : i < length rs = (let l = length-range_with_len 0 (i + 1) in omega (arith, l)) in
      let was : mid ≡ map (λ c. list_any (gives_to c) (take i rs)) (range_with_len 0 n) = is ∙ ap (λ xs. map (λ c. list_any (gives_to c) xs) (range_with_len 0 n)) (sym (take_range (i + 1) i (omega arith))) in
      mark_step gives_to rs i 0 n class passes mid new lt
      (λ c. ap (gives_to c) (at_range (i + 1) i 0 (omega arith)) ∙ by_parts (row_is g gives_word i) (nat_lt 0 (row_count g table k s i)) (class_at g i) c ∙ ap (λ x. (x == c) && (row_is g gives_word i && nat_lt 0 (row_count g table k s i))) (sym ec) ∙ ap (λ b. (class == c) && b) (sym ep))
      was e
      ∙ ap (λ xs. map (λ c. list_any (gives_to c) xs) (range_with_len 0 n)) (take_range (i + 1) (i + 1) (omega arith))

  pub pooled_all : (i : ℕ) (marks : List Bool) → i ≡ length g.rows + 1 + length g.sets → marks ≡ pooled_below i → marks ≡ map (is_pooled_in g table k s) (range_with_len 0 n)
  pooled_all i marks ei is = is ∙ ap (λ j. map (λ c. list_any (gives_to c) (range_with_len 0 j)) (range_with_len 0 n)) ei

-- whether a class has a mark
module _ (g : LaunchGraph) (table : Table) (k : ℕ) (s : Scope) (well : IsLaunchGraph g) (marks : List Bool) (is : marks ≡ map (is_pooled_in g table k s) (classes_of g)) where
  pub marks-size : length marks ≡ next_class g.rows
  marks-size = ap (λ (xs : List Bool). length xs) is ∙ length-map-range_with_len (is_pooled_in g table k s) 0 (next_class g.rows)

  pub marked-at : (class : ℕ) (d : Bool) → class < length marks → get_or marks class d ≡ is_pooled_in g table k s class
  marked-at class d lt = (let z = marks-size in ap (λ xs. get_or xs class d) is ∙ get_or-map-range_with_len (is_pooled_in g table k s) 0 (next_class g.rows) class class d (omega arith) (omega arith))

  pub unmarked : (class : ℕ) → length marks ≤ class → false ≡ is_pooled_in g table k s class
  unmarked class le =
      elim (cases_Bool (is_pooled_in g table k s class)) [
        | inl y ↦ (let z = marks-size in let below = pooled-below g well 0 (launches_from g table (allocation_in s) k (first_cycle_in s)) class (pooled-is g table k s class ∙ y) in absurd (omega arith))
        | inr f ↦ sym f
      ]

-- ---- how large

pub few_vars : (q n : ℕ) → q ≤ n → n ≤ 192 → at_most_vars q n ≤ 40000
few_vars q n le small = by (nat_le n q)
  where
    by : (b : Bool) → cond b 0 ((n - 1) * q) ≤ 40000
    by true = omega arith
    by false = (let p : (n - 1) * q ≤ 192 * 192 = mul-le (n - 1) q 192 192 (omega arith) (omega arith) in omega arith)

pub few_size : (q n : ℕ) → q ≤ n → n ≤ 192 → at_most_size q n ≤ 80000
few_size q n le small = by (nat_le n q) (q == 0)
  where
    by : (b z : Bool) → cond b 0 (cond z n ((n - 1) + (n - 2) * q + (n - 2) * (q - 1) + (n - 1))) ≤ 80000
    by true z = omega arith
    by false true = omega arith
    by false false =
        let a : (n - 2) * q ≤ 192 * 192 = mul-le (n - 2) q 192 192 (omega arith) (omega arith) in
        let b : (n - 2) * (q - 1) ≤ 192 * 192 = mul-le (n - 2) (q - 1) 192 192 (omega arith) (omega arith) in
        omega arith

-- ---- one more

pub more_of : {X : Type 0} (t : X → Bool) (xs : List X) (i : ℕ) → i < length xs → count_by t (take (i + 1) xs) ≡ count_by t (take i xs) + option_map_or (λ x. one_if (t x)) (slice_get xs i) 0
more_of t [] i lt = absurd (omega arith)
more_of t (x ∷ xs) i lt =
    let all = x ∷ xs in
    let last = get_or all i x in
    let a = ap (count_by t) (take_more all i x lt) ∙ sum_by-append (λ y. one_if (t y)) (take i all) (last ∷ []) in
    let b = sum_by-cons (λ y. one_if (t y)) last [] in
    let c = ap (λ o. option_map_or (λ y. one_if (t y)) o 0) (slice_get-get_or all i x lt) in
    omega arith

module _ (k : ℕ) where
  abbrev left : ℕ → ℕ
  left t = 1 + (k - (t + 1))

  from : (n a : ℕ) → sum_by left (range_with_len a (suc n)) ≡ sum_by left (range_with_len a n) + left (a + n)
  from zero a =
      let one : sum_by left (range_with_len a (suc zero)) ≡ left a + sum_by left [] = sum_by-cons left a [] in
      let none : sum_by left (range_with_len a zero) ≡ 0 = refl in
      let z : sum_by left [] ≡ 0 = refl in
      let e : a ≡ a + zero = omega arith in
      one ∙ ap (λ m. left m + sum_by left []) e ∙ omega (arith, none, z)
  from (suc n) a =
      let top : sum_by left (range_with_len a (suc (suc n))) ≡ left a + sum_by left (range_with_len (a + 1) (suc n)) = sum_by-cons left a (range_with_len (a + 1) (suc n)) in
      let low : sum_by left (range_with_len a (suc n)) ≡ left a + sum_by left (range_with_len (a + 1) n) = sum_by-cons left a (range_with_len (a + 1) n) in
      let r = from n (a + 1) in
      omega (arith, top, low, r)

  pub cycles_more : (first step : ℕ) → sum_by (λ t. 1 + (k - (t + 1))) (range_with_len first (step + 1)) ≡ sum_by (λ t. 1 + (k - (t + 1))) (range_with_len first step) + (1 + (k - (first + step + 1)))
  cycles_more first step = (let s : step + 1 ≡ suc step = omega arith in ap (λ m. sum_by left (range_with_len first m)) s ∙ from step first)

-- a row's launches, by its instruction, latency and first cycle
module _ (g : LaunchGraph) (table : Table) (k : ℕ) (s : Scope) (row : ℕ) where
  abbrev use_holds : Option ℕ → Option Use → ℕ
  use_holds first o = option_map_or (λ u. option_map_or (λ n. length (slots_of table u) * sum_by (λ t. 1 + (k - (t + 1))) (range_with_len n (cycles_of k n u))) first 0) o 0

  abbrev holds_of : Option ℕ → Option InstrKind → ℕ
  holds_of first o = use_holds first (option_and_then (use_of table) o)

  abbrev held_from : ℕ → ℕ → ℕ
  held_from n latency = sum_by (λ t. 1 + (k - (t + 1))) (range_with_len n (k + 1 - latency - n))

  holds_known : (instr : InstrKind) (n : ℕ) (o : Option Use) (latency : ℕ) → use_of table instr ≡ o → option_map (λ u. u.latency) o ≡ Some latency → use_holds (Some n) o ≡ count_by (may_use table instr) (range_with_len 0 (length table.slots)) * held_from n latency
  holds_known instr n None latency e h = absurd (let f : None ≡ Some latency = h in cc)
  holds_known instr n (Some u) latency e h =
      let l : u.latency ≡ latency = cc in
      let test : (λ s. list_any (λ r. r == s) u.slots) ≡ may_use table instr = ap (λ (o : Option Use). λ s. option_map_or (λ (u : Use). list_any (λ r. r == s) u.slots) o false) (sym e) in
      ap (λ m. length (slots_of table u) * held_from n m) l
      ∙ ap (λ t. length (filter t (range_with_len 0 (length table.slots))) * held_from n latency) test
      ∙ ap (λ m. m * held_from n latency) (length-filter (may_use table instr) (range_with_len 0 (length table.slots)))

  pub holds_is : (instr : InstrKind) (latency n : ℕ) → instr_at g row ≡ Some instr → latency_of table instr ≡ Some latency → first_cycle_in s row ≡ Some n → row_holds g table k s row ≡ count_by (may_use table instr) (range_with_len 0 (length table.slots)) * sum_by (λ t. 1 + (k - (t + 1))) (range_with_len n (k + 1 - latency - n))
  holds_is instr latency n e h f = ap (holds_of (first_cycle_in s row)) e ∙ ap (λ (o : Option ℕ). use_holds o (use_of table instr)) f ∙ holds_known instr n (use_of table instr) latency refl h

  no_first : (o : Option Use) → use_holds None o ≡ 0
  no_first None = refl
  no_first (Some u) = refl

  pub holds_without_first : first_cycle_in s row ≡ None → row_holds g table k s row ≡ 0
  holds_without_first f = ap (λ (o : Option ℕ). use_holds o (row_use g table row)) f ∙ no_first (row_use g table row)

  no_use : (o : Option Use) → option_map (λ u. u.latency) o ≡ None → use_holds (first_cycle_in s row) o ≡ 0
  no_use None h = refl
  no_use (Some u) h = absurd (let f : Some u.latency ≡ None = h in cc)

  pub holds_without_use : (instr : InstrKind) → instr_at g row ≡ Some instr → latency_of table instr ≡ None → row_holds g table k s row ≡ 0
  holds_without_use instr e h = ap (holds_of (first_cycle_in s row)) e ∙ no_use (use_of table instr) h

  pub holds_without_instr : instr_at g row ≡ None → row_holds g table k s row ≡ 0
  holds_without_instr e = ap (holds_of (first_cycle_in s row)) e
