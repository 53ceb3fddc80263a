-- Sums over all launches where sets may have pins, row by row.
use Rattle.std.proofs.Common.{◌≡◌, ℕ, ◌+◌, ◌-◌, ◌*◌, ◌<◌, Bool, true, false, List, [], ◌∷◌, ◌++◌, length, map, refl, sym, ap, ◌∙◌, arith, Option, Some, None, length-append}
use Rattle.std.specs.Prelude.{◌&&◌, ◌==◌, option_and_then}
use Rattle.std.specs.Option.{option_map_or}
use Rattle.std.specs.List.{filter, flat_map, list_any, count_by, sum_by, range_with_len}
use Rattle.std.proofs.lemmas.List.Sums.{length-filter}
use Rattle.std.proofs.lemmas.List.FromFn.{length-range_with_len}
use Rattle.cnf_core.specs.declared.literal.Lit.{Lit}
use Rattle.cnf_core.specs.Counter.{at_most_clauses, at_most_size, at_most_vars}
use Rattle.machine_table.specs.Tables.{use_of}
use Rattle.schedule_meaning.specs.Launches.{instr_at, operands_at, gives}
use Rattle.machine_table.specs.declared.tables.Table.{Table}
use Rattle.machine_table.specs.declared.tables.Use.{Use}
use Rattle.machine_table.specs.declared.tables.InstrKind.{InstrKind}
use Rattle.graph_meaning.specs.declared.graphs.LaunchGraph.{LaunchGraph}
use Rattle.graph_meaning.specs.declared.graphs.SetClass.{SetClass}
use Rattle.schedule_meaning.specs.declared.schedules.To.{To}
use Rattle.schedule_meaning.specs.declared.schedules.Launch.{Launch}
use Rattle.cycle_encoding.specs.CycleFormula.{allocation_in}
use Rattle.cycle_encoding.specs.Shapes.{vars_of, negated, counters}
use Rattle.cycle_encoding.specs.Variables.{slots_of, clusters_of, all_seen, Seen}
use Rattle.cycle_encoding.specs.Families.{is_at, makes, seen_clauses, slot_row, slot_groups}
use Rattle.cycle_encoding.specs.CycleFormula.{Scope, launch_vars, seen_vars, first_cycle_in, wants_in}
use Rattle.cycle_encoding.specs.Counts.{one_if, cycles_of, can_begin, row_count, row_has}
use Rattle.cycle_encoding.specs.Variables.{destinations, use_launches, row_launches, launches_from, row_numbers, shown_classes, overwriting_sets, all_overwritten, Overwritten}
use Rattle.cycle_encoding.specs.Families.{is_made_target, is_lost, is_needed, target_clauses, operand_clause, operand_clauses}
use Rattle.cycle_encoding.specs.CycleFormula.{overwritten_vars, before_counters, after_counters, cycle_part}
use Rattle.cycle_encoding.specs.Counts.{row_destinations, needs_clause, sum_destined, destined_at, sum_places, seen_count, overwritten_count, cycle_vars, cycle_size}
use Rattle.cycle_encoding.specs.CycleFormula.{listed_in}
use Rattle.cycle_encoding.proofs.Counting.{sum-same}
use Rattle.cycle_encoding.proofs.Members.{range-out, range-once, filter-once}
use Rattle.cycle_encoding.proofs.Rows.{counters-size}
use Rattle.cycle_encoding.proofs.Totals.{sum-flat, sum-map, sum-const, sum-times, size-ones, size-flat, size-vars, size-implied, count-this, count-cycle}
use Rattle.cycle_encoding.proofs.Launched.{same-in, size-map, both_one, any-slot}

abbrev at : ℕ → ℕ → ℕ → To → Launch
at row slot cycle to = record { cycle = cycle; slot = slot; row = row; to = to }

module _ (g : LaunchGraph) (table : Table) (k : ℕ) (s : Scope) where
  -- a sum over the launches of a row, use by use
  module _ (row : ℕ) (F : Launch → ℕ) (C : ℕ → Use → List To → ℕ) (each : (n : ℕ) (u : Use) (tos : List To) → sum_by F (use_launches table k row n tos u) ≡ C n u tos) where
    by_first : (i : InstrKind) (u : Use) (o : Option ℕ) → sum_by F (option_map_or (λ n. use_launches table k row n (destinations g (allocation_in s) i row) u) o []) ≡ option_map_or (λ n. C n u (destinations g (allocation_in s) i row)) o 0
    by_first i u None = refl
    by_first i u (Some n) = each n u (destinations g (allocation_in s) i row)

    by_use : (i : InstrKind) (first : Option ℕ) (u : Option Use) → sum_by F (option_map_or (λ u. option_map_or (λ n. use_launches table k row n (destinations g (allocation_in s) i row) u) first []) u []) ≡ option_map_or (λ u. option_map_or (λ n. C n u (destinations g (allocation_in s) i row)) first 0) u 0
    by_use i first None = refl
    by_use i first (Some u) = by_first i u first

    abbrev of_instr : Option ℕ → InstrKind → ℕ
    of_instr first i = option_map_or (λ u. option_map_or (λ n. C n u (destinations g (allocation_in s) i row)) first 0) (use_of table i) 0

    by_instr : (first : Option ℕ) (o : Option InstrKind) → sum_by F (option_map_or (λ i. option_map_or (λ u. option_map_or (λ n. use_launches table k row n (destinations g (allocation_in s) i row) u) first []) (use_of table i) []) o []) ≡ option_map_or (of_instr first) o 0
    by_instr first None = refl
    by_instr first (Some i) = by_use i first (use_of table i)

    pub by_row : sum_by F (row_launches g table (allocation_in s) k (first_cycle_in s row) row) ≡ option_map_or (of_instr (first_cycle_in s row)) (instr_at g row) 0
    by_row = by_instr (first_cycle_in s row) (instr_at g row)

  pub use_sum : (row n : ℕ) (tos : List To) (u : Use) (F : Launch → ℕ) → sum_by F (use_launches table k row n tos u) ≡ sum_by (λ x. sum_by (λ t. sum_by (λ to. F (at row x t to)) tos) (range_with_len n (cycles_of k n u))) (slots_of table u)
  use_sum row n tos u F =
      sum-flat F (λ x. flat_map (λ t. map (at row x t) tos) (range_with_len n (cycles_of k n u))) (slots_of table u)
      ∙ sum-same (λ x. sum_by F (flat_map (λ t. map (at row x t) tos) (range_with_len n (cycles_of k n u)))) (λ x. sum_by (λ t. sum_by (λ to. F (at row x t to)) tos) (range_with_len n (cycles_of k n u))) (slots_of table u)
      (λ x. sum-flat F (λ t. map (at row x t) tos) (range_with_len n (cycles_of k n u))
      ∙ sum-same (λ t. sum_by F (map (at row x t) tos)) (λ t. sum_by (λ to. F (at row x t to)) tos) (range_with_len n (cycles_of k n u)) (λ t. sum-map F (at row x t) tos))

  -- ---- what hangs on the row and on where it goes

  use_row : (f : ℕ → To → ℕ) (row n : ℕ) (u : Use) (tos : List To) → sum_by (λ (l : Launch). f l.row l.to) (use_launches table k row n tos u) ≡ length (slots_of table u) * cycles_of k n u * sum_by (f row) tos
  use_row f row n u tos =
      let m = cycles_of k n u in
      let c = sum_by (f row) tos in
      let one : sum_by (λ (t : ℕ). c) (range_with_len n m) ≡ m * c = sum-const c (range_with_len n m) ∙ ap (λ j. j * c) (length-range_with_len n m) in
      use_sum row n tos u (λ l. f l.row l.to)
      ∙ sum-same (λ (x : ℕ). sum_by (λ (t : ℕ). c) (range_with_len n m)) (λ x. m * c) (slots_of table u) (λ x. one)
      ∙ sum-const (m * c) (slots_of table u)
      ∙ (let e : (a b c : ℕ) → a * (b * c) ≡ a * b * c = λ a b c. omega arith in e (length (slots_of table u)) m c)

  times_first : (c : ℕ) (D : ℕ → ℕ) (o : Option ℕ) → option_map_or (λ n. D n * c) o 0 ≡ option_map_or D o 0 * c
  times_first c D None = (let z : 0 ≡ 0 * c = omega arith in z)
  times_first c D (Some n) = refl

  times_use : (c : ℕ) (D : ℕ → Use → ℕ) (first : Option ℕ) (o : Option Use) → option_map_or (λ u. option_map_or (λ n. D n u * c) first 0) o 0 ≡ option_map_or (λ u. option_map_or (λ n. D n u) first 0) o 0 * c
  times_use c D first None = (let z : 0 ≡ 0 * c = omega arith in z)
  times_use c D first (Some u) = times_first c (λ n. D n u) first

  pub times_instr : (row : ℕ) (f : To → ℕ) (D : ℕ → Use → ℕ) (first : Option ℕ) (o : Option InstrKind) → option_map_or (λ i. option_map_or (λ u. option_map_or (λ n. D n u * sum_by f (destinations g (allocation_in s) i row)) first 0) (use_of table i) 0) o 0 ≡ option_map_or (λ u. option_map_or (λ n. D n u) first 0) (option_and_then (use_of table) o) 0 * sum_by f (option_map_or (λ i. destinations g (allocation_in s) i row) o [])
  times_instr row f D first None = (let z : 0 ≡ 0 * sum_by f [] = omega arith in z)
  times_instr row f D first (Some i) = times_use (sum_by f (destinations g (allocation_in s) i row)) D first (use_of table i)

  pub sum-destined : (f : ℕ → To → ℕ) → sum_by (λ (l : Launch). f l.row l.to) (launches_from g table (allocation_in s) k (first_cycle_in s)) ≡ sum_destined g table k s f
  sum-destined f =
      sum-flat (λ (l : Launch). f l.row l.to) (λ row. row_launches g table (allocation_in s) k (first_cycle_in s row) row) (row_numbers g)
      ∙ sum-same (λ row. sum_by (λ (l : Launch). f l.row l.to) (row_launches g table (allocation_in s) k (first_cycle_in s row) row)) (λ row. row_count g table k s row * sum_by (f row) (row_destinations g (allocation_in s) row)) (row_numbers g)
      (λ row. by_row row (λ l. f l.row l.to) (λ n u tos. length (slots_of table u) * cycles_of k n u * sum_by (f row) tos) (use_row f row)
      ∙ times_instr row (f row) (λ n u. length (slots_of table u) * cycles_of k n u) (first_cycle_in s row) (instr_at g row))

  pub destined-count : length (launches_from g table (allocation_in s) k (first_cycle_in s)) ≡ sum_destined g table k s (λ row to. 1)
  destined-count = size-ones (launches_from g table (allocation_in s) k (first_cycle_in s)) ∙ sum-destined (λ row to. 1)

  -- ---- a slot and a cycle

  pub in_cycle : (c : ℕ) (b : Bool) (n : ℕ) (u : Use) (t : ℕ) → sum_by (λ y. one_if (b && (y == t)) * c) (range_with_len n (cycles_of k n u)) ≡ one_if b * one_if (can_begin k n u t) * c
  in_cycle c b n u t = sum-times (λ y. one_if (b && (y == t))) c (range_with_len n (cycles_of k n u)) ∙ ap (λ m. m * c) (only b)
    where
      only : (b : Bool) → sum_by (λ y. one_if (b && (y == t))) (range_with_len n (cycles_of k n u)) ≡ one_if b * one_if (can_begin k n u t)
      only true = count-cycle n (k + 1 - u.latency) t ∙ (let z : one_if (can_begin k n u t) ≡ 1 * one_if (can_begin k n u t) = omega arith in z)
      only false = sum-const 0 (range_with_len n (cycles_of k n u)) ∙ (let z : length (range_with_len n (cycles_of k n u)) * 0 ≡ 0 * one_if (can_begin k n u t) = omega arith in z)

  pub each_to : (b : Bool) (tos : List To) → sum_by (λ (to : To). one_if b) tos ≡ one_if b * length tos
  each_to b tos = sum-const (one_if b) tos ∙ (let z : (a c : ℕ) → a * c ≡ c * a = λ a c. omega arith in z (length tos) (one_if b))

  use_at : (x t row : ℕ) → x < length table.slots → (n : ℕ) (u : Use) (tos : List To) → count_by (is_at x t) (use_launches table k row n tos u) ≡ one_if (list_any (λ r. r == x) u.slots && can_begin k n u t) * length tos
  use_at x t row lt n u tos =
      let c = length tos in
      use_sum row n tos u (λ l. one_if (is_at x t l))
      ∙ sum-same (λ z. sum_by (λ y. sum_by (λ (to : To). one_if ((z == x) && (y == t))) tos) (range_with_len n (cycles_of k n u))) (λ z. one_if (z == x) * (one_if (can_begin k n u t) * c)) (slots_of table u)
      (λ z. sum-same (λ y. sum_by (λ (to : To). one_if ((z == x) && (y == t))) tos) (λ y. one_if ((z == x) && (y == t)) * c) (range_with_len n (cycles_of k n u)) (λ y. each_to ((z == x) && (y == t)) tos)
      ∙ in_cycle c (z == x) n u t
      ∙ (let e : (a b c : ℕ) → a * b * c ≡ a * (b * c) = λ a b c. omega arith in e (one_if (z == x)) (one_if (can_begin k n u t)) c))
      ∙ sum-times (λ z. one_if (z == x)) (one_if (can_begin k n u t) * c) (slots_of table u)
      ∙ ap (λ m. m * (one_if (can_begin k n u t) * c)) (count-this (slots_of table u) x (filter-once (λ r. list_any (λ q. q == r) u.slots) (range_with_len 0 (length table.slots)) (range-once 0 (length table.slots))) ∙ ap one_if (any-slot table u x lt))
      ∙ (let e : (a b c : ℕ) → a * (b * c) ≡ a * b * c = λ a b c. omega arith in e (one_if (list_any (λ r. r == x) u.slots)) (one_if (can_begin k n u t)) c)
      ∙ ap (λ m. m * c) (both_one (list_any (λ r. r == x) u.slots) (can_begin k n u t))

  has_first : (c : ℕ) (D : ℕ → Bool) (o : Option ℕ) → option_map_or (λ n. one_if (D n) * c) o 0 ≡ one_if (option_map_or D o false) * c
  has_first c D None = (let z : 0 ≡ 0 * c = omega arith in z)
  has_first c D (Some n) = refl

  has_use : (c : ℕ) (D : ℕ → Use → Bool) (first : Option ℕ) (o : Option Use) → option_map_or (λ u. option_map_or (λ n. one_if (D n u) * c) first 0) o 0 ≡ one_if (option_map_or (λ u. option_map_or (λ n. D n u) first false) o false) * c
  has_use c D first None = (let z : 0 ≡ 0 * c = omega arith in z)
  has_use c D first (Some u) = has_first c (λ n. D n u) first

  has_instr : (row : ℕ) (D : ℕ → Use → Bool) (first : Option ℕ) (o : Option InstrKind) → option_map_or (λ i. option_map_or (λ u. option_map_or (λ n. one_if (D n u) * length (destinations g (allocation_in s) i row)) first 0) (use_of table i) 0) o 0 ≡ one_if (option_map_or (λ u. option_map_or (λ n. D n u) first false) (option_and_then (use_of table) o) false) * length (option_map_or (λ i. destinations g (allocation_in s) i row) o [])
  has_instr row D first None = (let z : 0 ≡ 0 * length {A = To} [] = omega arith in z)
  has_instr row D first (Some i) = has_use (length (destinations g (allocation_in s) i row)) D first (use_of table i)

  pub destined-at : (x t : ℕ) → x < length table.slots → count_by (is_at x t) (launches_from g table (allocation_in s) k (first_cycle_in s)) ≡ destined_at g table k s x t
  destined-at x t lt =
      sum-flat (λ l. one_if (is_at x t l)) (λ row. row_launches g table (allocation_in s) k (first_cycle_in s row) row) (row_numbers g)
      ∙ sum-same (λ row. count_by (is_at x t) (row_launches g table (allocation_in s) k (first_cycle_in s row) row)) (λ row. one_if (row_has g table k s x t row) * length (row_destinations g (allocation_in s) row)) (row_numbers g)
      (λ row. by_row row (λ l. one_if (is_at x t l)) (λ n u tos. one_if (list_any (λ r. r == x) u.slots && can_begin k n u t) * length tos) (use_at x t row lt)
      ∙ has_instr row (λ n u. list_any (λ r. r == x) u.slots && can_begin k n u t) (first_cycle_in s row) (instr_at g row))

  -- ---- what is seen and overwritten

  seen-size : length (all_seen table k (shown_classes g (wants_in s))) ≡ seen_count g table k s
  seen-size =
      size-flat (λ c. flat_map (λ n. map (λ t. record { class = c; cluster = n; cycle = t }) (range_with_len 0 k)) (clusters_of table)) (shown_classes g (wants_in s))
      ∙ sum-same (λ c. length (flat_map {A = Seen} (λ n. map (λ t. record { class = c; cluster = n; cycle = t }) (range_with_len 0 k)) (clusters_of table))) (λ c. length (clusters_of table) * k) (shown_classes g (wants_in s))
      (λ c. size-flat {A = Seen} (λ n. map (λ t. record { class = c; cluster = n; cycle = t }) (range_with_len 0 k)) (clusters_of table)
      ∙ sum-same (λ n. length (map {B = Seen} (λ t. record { class = c; cluster = n; cycle = t }) (range_with_len 0 k))) (λ n. k) (clusters_of table) (λ n. size-map {A = Seen} (λ t. record { class = c; cluster = n; cycle = t }) (range_with_len 0 k) ∙ length-range_with_len 0 k)
      ∙ sum-const k (clusters_of table))
      ∙ sum-const (length (clusters_of table) * k) (shown_classes g (wants_in s))

  over-size : length (all_overwritten g k) ≡ overwritten_count g table k s
  over-size =
      size-flat {A = Overwritten} (λ j. map (λ t. record { set = j; cycle = t }) (range_with_len 0 (k + 1))) (overwriting_sets g)
      ∙ sum-same (λ j. length (map {B = Overwritten} (λ t. record { set = j; cycle = t }) (range_with_len 0 (k + 1)))) (λ j. k + 1) (overwriting_sets g) (λ j. size-map {A = Overwritten} (λ t. record { set = j; cycle = t }) (range_with_len 0 (k + 1)) ∙ length-range_with_len 0 (k + 1))
      ∙ sum-const (k + 1) (overwriting_sets g)

  -- ---- counters over slots and cycles

  places : (h : ℕ → ℕ) → sum_by (λ (c : List Lit). h (length c)) (slot_groups table k (launch_vars (listed_in g table k s))) ≡ sum_places g table k s (λ x t. h (destined_at g table k s x t))
  places h =
      let xs = launch_vars (listed_in g table k s) in
      sum-flat (λ (c : List Lit). h (length c)) (λ x. slot_row x k xs) (range_with_len 0 (length table.slots))
      ∙ same-in (λ x. sum_by (λ (c : List Lit). h (length c)) (slot_row x k xs)) (λ x. sum_by (λ t. h (destined_at g table k s x t)) (range_with_len 0 k)) (range_with_len 0 (length table.slots)) (λ x hs.
      let lt : x < length table.slots = (let b = (range-out 0 (length table.slots) x hs).1 in omega arith) in
      sum-map (λ (c : List Lit). h (length c)) (λ t. vars_of (is_at x t) xs) (range_with_len 0 k)
      ∙ sum-same (λ t. h (length (vars_of (is_at x t) xs))) (λ t. h (destined_at g table k s x t)) (range_with_len 0 k) (λ t. ap h (size-vars (is_at x t) 0 (launches_from g table (allocation_in s) k (first_cycle_in s)) ∙ destined-at x t lt)))

  -- ---- the part of the cycles

  pub pinned-cycle-vars : after_counters g table k (listed_in g table k s) ≡ cycle_vars g table k s
  pinned-cycle-vars =
      let e = listed_in g table k s in
      let a = destined-count in
      let b = seen-size in
      let c = over-size in
      let d = places (at_most_vars 1) in
      omega arith

  module _ (size : (old p : ℕ) (lits : List Lit) → length (at_most_clauses old p lits) ≡ at_most_size p (length lits)) where
    pub pinned-cycle-size : length (cycle_part g table k (listed_in g table k s)) ≡ cycle_size g table k s
    pinned-cycle-size =
        let e = listed_in g table k s in
        let xs = launch_vars e in
        let ds = seen_vars e in
        let vs = overwritten_vars g table k e in
        let c1 = target_clauses g k xs vs in
        let c2 = operand_clauses g table xs ds vs in
        let c3 = seen_clauses g table xs ds in
        let c4 = counters (before_counters g table k e) 1 (slot_groups table k xs) in
        let l1 : length c1 ≡ count_by (is_made_target g) g.sets = size-map (λ (s : SetClass). vars_of (gives g s.class) xs ++ negated (is_lost g s.class k) vs) (filter (is_made_target g) g.sets) ∙ length-filter (is_made_target g) g.sets in
        let l2 : length c2 ≡ sum_destined g table k s (λ row to. count_by (needs_clause g to) (operands_at g row)) =
        size-implied (λ (l : Launch). map (operand_clause g table ds vs l) (filter (is_needed g l) (operands_at g l.row))) 0 (launches_from g table (allocation_in s) k (first_cycle_in s))
        ∙ sum-same (λ (l : Launch). length (map (operand_clause g table ds vs l) (filter (is_needed g l) (operands_at g l.row)))) (λ l. count_by (needs_clause g l.to) (operands_at g l.row)) (launches_from g table (allocation_in s) k (first_cycle_in s)) (λ l. size-map (operand_clause g table ds vs l) (filter (is_needed g l) (operands_at g l.row)) ∙ length-filter (is_needed g l) (operands_at g l.row))
        ∙ sum-destined (λ row to. count_by (needs_clause g to) (operands_at g row)) in
        let l3 : length c3 ≡ seen_count g table k s = size-implied (λ d. vars_of (makes g table d) xs ∷ []) (length e.launches) e.seen ∙ sym (size-ones e.seen) ∙ seen-size in
        let l4 : length c4 ≡ sum_places g table k s (λ x t. at_most_size 1 (destined_at g table k s x t)) = counters-size 1 size (before_counters g table k e) (slot_groups table k xs) ∙ places (at_most_size 1) in
        let a = length-append (c1 ++ c2 ++ c3) c4 in
        let b = length-append (c1 ++ c2) c3 in
        let c = length-append c1 c2 in
        omega arith
