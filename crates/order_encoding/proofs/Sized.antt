-- The counts of memory, guard, registers and pins, and of the whole, where sets may have pins.
use Rattle.std.proofs.Common.{◌≡◌, ℕ, suc, ◌+◌, ◌-◌, ◌*◌, ◌<◌, Bool, true, false, not, cond, List, [], ◌∷◌, ◌++◌, length, map, refl, sym, ap, ◌∙◌, arith, length-append}
use Rattle.std.specs.Prelude.{◌&&◌, ◌||◌, ◌==◌, is_some, Contains}
use Rattle.std.specs.List.{flat_map, count_by, sum_by, range_with_len}
use Rattle.std.proofs.lemmas.Bool.{eq-eqb}
use Rattle.std.proofs.lemmas.List.Sums.{sum_by-cons, sum_by-append}
use Rattle.std.proofs.lemmas.List.FromFn.{length-range_with_len}
use Rattle.cnf_core.specs.declared.literal.Lit.{Lit}
use Rattle.cnf_core.specs.Counter.{at_most_clauses, at_most_size, at_most_vars}
use Rattle.schedule_meaning.specs.Launches.{launches, gives_word, is_load, is_store, is_branch, is_held, class_at, memory_class_at, instr_at, operands_at, is_pool, is_set, goes_to, overwrites, takes_pool}
use Rattle.machine_table.specs.declared.tables.Table.{Table}
use Rattle.machine_table.specs.declared.tables.Use.{Use}
use Rattle.graph_meaning.specs.declared.graphs.LaunchGraph.{LaunchGraph}
use Rattle.schedule_meaning.specs.declared.schedules.Launch.{Launch}
use Rattle.schedule_meaning.specs.declared.schedules.To.{To}
use Rattle.cycle_encoding.specs.Shapes.{negated, numbered, vars_of, implied, when, counters, counters_vars}
use Rattle.cycle_encoding.specs.Variables.{slots_of}
use Rattle.cycle_encoding.specs.Variables.{use_launches, row_launches, launches_from, row_numbers, set_numbers, is_overwriting, overwriting_sets, all_overwritten, Overwritten, pinned_sets}
use Rattle.order_encoding.specs.OrderVariables.{memory_classes, all_held, all_taken, Held, Taken}
use Rattle.order_encoding.specs.OrderFamilies.{stores_at, uses_memory, waits, branches_by, is_held_at, is_taken_at, held_groups, store_groups, entry_clauses, memory_clauses, kept_clauses, last_memory_clauses, branch_groups, register_groups}
use Rattle.cycle_encoding.specs.Families.{any}
use Rattle.cycle_encoding.specs.CycleFormula.{Listed, Scope, allocation_in, first_cycle_in, launch_vars}
use Rattle.cycle_encoding.specs.Families.{is_made_target}
use Rattle.schedule_meaning.specs.declared.schedules.Allocation.{Allocation}
use Rattle.schedule_meaning.specs.declared.schedules.Allocation.TheVariants.{Block, Live}
use Rattle.order_encoding.specs.LiveVariables.{Hold}
use Rattle.order_encoding.specs.LiveFamilies as live
use Rattle.order_encoding.specs.LiveFamilies.{need_clauses, earlier_clauses, hold_clauses, hold_groups}
use Rattle.order_encoding.specs.OrderCounts.{is_pooled_in, is_pooled_operand_in, live_size, live_vars, over_load_count, pool_size, pool_vars, pooled_count, row_holds}
use Rattle.order_encoding.proofs.HoldPlaces.{holds-are-counted}
use Rattle.order_encoding.proofs.LiveSized.{all-needs-size, cycle-size, earlier-size, hold-clauses-size, last-size, operand-needs-size}
use Rattle.cycle_encoding.specs.CycleFormula.{overwritten_vars, before_overwritten, after_counters, cycle_part}
use Rattle.cycle_encoding.specs.Counts.{row_destinations, sum_destined, cycle_vars, cycle_size}
use Rattle.cycle_encoding.specs.CycleFormula.{listed_in}
use Rattle.cycle_encoding.specs.Counts.{one_if, row_is, cycles_of, can_begin}
use Rattle.order_encoding.specs.PinFamilies.{is_overwritten_at, unmet_sets, pool_clauses, overwrites_next, stays_overwritten, set_clauses, overwritten_clauses, pin_groups, pin_clauses, overwrites_after, late_clauses, loads_alone, load_clauses}
use Rattle.order_encoding.specs.WholeFormula.{branch_vars, store_cycle_vars, memory_formula, guard_formula, pool_formula, pins_formula}
use Rattle.order_encoding.specs.OrderCounts.{row_stores, held_count, taken_places}
use Rattle.order_encoding.specs.OrderCounts.{overwrites_at, destined_stores, memory_vars, memory_size, destined_branches, guard_vars, guard_size, registers_vars, registers_size, goes_count, late_count, pins_vars, pins_size}
use Rattle.order_encoding.proofs.Parts.{held_vars, before_stores, store_vars, before_held, memory_groups, after_memory, earliest_cycles, come_vars, before_branch, after_guard, taken_vars, before_pool, memory_part, guard_part, pool_part, after_pool, pins_part, before_holds, hold_vars, need_vars, before_counts, live_part, registers_part, pool_by, pool_part_of, pool-clauses}
use Rattle.cycle_encoding.proofs.Counting.{sum-same, count-any}
use Rattle.cycle_encoding.proofs.Members.{range-out, range-once, filter-once}
use Rattle.cycle_encoding.proofs.Tests.{some_in}
use Rattle.cycle_encoding.proofs.Rows.{counters-size}
use Rattle.cycle_encoding.proofs.Totals.{sum-flat, sum-map, sum-const, size-ones, size-flat, size-vars, size-implied, count-first, count-this}
use Rattle.cycle_encoding.proofs.Launched.{same-in, size-map, both_one}
use Rattle.cycle_encoding.proofs.PinnedTotals.{by_row, use_sum, times_instr, in_cycle, each_to, sum-destined}

size-when : {A : Type 0} (b : Bool) (xs : List A) → length (when b xs) ≡ one_if b * length xs
size-when true xs = omega arith
size-when false xs = (let z : length (when false xs) ≡ 0 = refl in omega (arith, z))

size-one : {A : Type 0} (b : Bool) (x : A) → length (when b (x ∷ [])) ≡ one_if b
size-one true x = refl
size-one false x = refl

and_swap : (a b : Bool) → (a && b) ≡ (b && a)
and_swap true true = refl
and_swap true false = refl
and_swap false true = refl
and_swap false false = refl

-- cycle 0, among k + 1 cycles
module _ (k : ℕ) where
  pub first_cycle : (b : Bool) → sum_by (λ t. one_if (b && (t == 0))) (range_with_len 0 (k + 1)) ≡ one_if b * 1
  first_cycle true = count-first (k + 1) 0 (omega arith)
  first_cycle false = sum-const 0 (range_with_len 0 (k + 1)) ∙ (let z : length (range_with_len 0 (k + 1)) * 0 ≡ 0 * 1 = omega arith in z)

module _ (g : LaunchGraph) (table : Table) (k : ℕ) (sc : Scope) where
  abbrev e : Listed
  e = listed_in g table k sc

  -- the stores of a cycle
  use_store : (t row n : ℕ) (u : Use) (tos : List To) → count_by (stores_at g t) (use_launches table k row n tos u) ≡ length (slots_of table u) * one_if (row_is g is_store row && can_begin k n u t) * sum_by (λ (to : To). 1) tos
  use_store t row n u tos =
      let b = row_is g is_store row in
      let c = length tos in
      use_sum g table k sc row n tos u (λ l. one_if (stores_at g t l))
      ∙ sum-same (λ (x : ℕ). sum_by (λ y. sum_by (λ (to : To). one_if (b && (y == t))) tos) (range_with_len n (cycles_of k n u))) (λ x. one_if (b && can_begin k n u t) * c) (slots_of table u)
      (λ x. sum-same (λ y. sum_by (λ (to : To). one_if (b && (y == t))) tos) (λ y. one_if (b && (y == t)) * c) (range_with_len n (cycles_of k n u)) (λ y. each_to g table k sc (b && (y == t)) tos)
      ∙ in_cycle g table k sc c b n u t ∙ ap (λ m. m * c) (both_one b (can_begin k n u t)))
      ∙ sum-const (one_if (b && can_begin k n u t) * c) (slots_of table u)
      ∙ (let m : (x y z : ℕ) → x * (y * z) ≡ x * y * z = λ x y z. omega arith in m (length (slots_of table u)) (one_if (b && can_begin k n u t)) c)
      ∙ ap (λ m. length (slots_of table u) * one_if (b && can_begin k n u t) * m) (size-ones tos)

  destined-stores : (t : ℕ) → count_by (stores_at g t) (launches_from g table (allocation_in sc) k (first_cycle_in sc)) ≡ destined_stores g table k sc t
  destined-stores t =
      sum-flat (λ l. one_if (stores_at g t l)) (λ row. row_launches g table (allocation_in sc) k (first_cycle_in sc row) row) (row_numbers g)
      ∙ sum-same (λ row. count_by (stores_at g t) (row_launches g table (allocation_in sc) k (first_cycle_in sc row) row)) (λ row. row_stores g table k sc t row * length (row_destinations g (allocation_in sc) row)) (row_numbers g)
      (λ row. by_row g table k sc row (λ l. one_if (stores_at g t l)) (λ n u tos. length (slots_of table u) * one_if (row_is g is_store row && can_begin k n u t) * sum_by (λ (to : To). 1) tos) (use_store t row)
      ∙ times_instr g table k sc row (λ to. 1) (λ n u. length (slots_of table u) * one_if (row_is g is_store row && can_begin k n u t)) (first_cycle_in sc row) (instr_at g row)
      ∙ ap (λ m. row_stores g table k sc t row * m) (sym (size-ones (row_destinations g (allocation_in sc) row))))

  -- a sum over what is held, class by class and cycle by cycle
  held_sum : (F : Held → ℕ) → sum_by F (all_held g k) ≡ sum_by (λ c. sum_by (λ t. F (record { class = c; cycle = t })) (range_with_len 0 (k + 1))) (memory_classes g)
  held_sum F =
      sum-flat F (λ c. map (λ t. record { class = c; cycle = t }) (range_with_len 0 (k + 1))) (memory_classes g)
      ∙ sum-same (λ c. sum_by F (map (λ t. record { class = c; cycle = t }) (range_with_len 0 (k + 1)))) (λ c. sum_by (λ t. F (record { class = c; cycle = t })) (range_with_len 0 (k + 1))) (memory_classes g) (λ c. sum-map F (λ t. record { class = c; cycle = t }) (range_with_len 0 (k + 1)))

  pub held-size : length (all_held g k) ≡ held_count g * (k + 1)
  held-size =
      size-ones (all_held g k) ∙ held_sum (λ m. 1)
      ∙ sum-same (λ (c : ℕ). sum_by (λ (t : ℕ). 1) (range_with_len 0 (k + 1))) (λ c. k + 1) (memory_classes g) (λ c. sym (size-ones (range_with_len 0 (k + 1))) ∙ length-range_with_len 0 (k + 1))
      ∙ sum-const (k + 1) (memory_classes g)

  held-cycle : (t : ℕ) → t < k + 1 → count_by (λ (m : Held). m.cycle == t) (all_held g k) ≡ held_count g
  held-cycle t lt =
      held_sum (λ m. one_if (m.cycle == t))
      ∙ sum-same (λ (c : ℕ). sum_by (λ y. one_if (y == t)) (range_with_len 0 (k + 1))) (λ c. 1) (memory_classes g) (λ c. count-first (k + 1) t lt)
      ∙ sym (size-ones (memory_classes g))

  -- counters of what is held and of stores
  groups : (h : ℕ → ℕ) → sum_by (λ (c : List Lit). h (length c)) (memory_groups g table k e) ≡ (k + 1) * h (held_count g) + sum_by (λ t. h (destined_stores g table k sc t)) (range_with_len 0 k)
  groups h =
      let ms = held_vars g table k e in
      let xs = launch_vars e in
      let a : sum_by (λ (c : List Lit). h (length c)) (held_groups k ms) ≡ (k + 1) * h (held_count g) =
      sum-map (λ (c : List Lit). h (length c)) (λ t. vars_of (λ (m : Held). m.cycle == t) ms) (range_with_len 0 (k + 1))
      ∙ same-in (λ t. h (length (vars_of (λ (m : Held). m.cycle == t) ms))) (λ t. h (held_count g)) (range_with_len 0 (k + 1)) (λ t ht. ap h (size-vars (λ (m : Held). m.cycle == t) (after_counters g table k e) (all_held g k) ∙ held-cycle t (let b = (range-out 0 (k + 1) t ht).1 in omega arith)))
      ∙ sum-const (h (held_count g)) (range_with_len 0 (k + 1)) ∙ ap (λ n. n * h (held_count g)) (length-range_with_len 0 (k + 1)) in
      let b : sum_by (λ (c : List Lit). h (length c)) (store_groups g k xs) ≡ sum_by (λ t. h (destined_stores g table k sc t)) (range_with_len 0 k) =
      sum-map (λ (c : List Lit). h (length c)) (λ t. vars_of (stores_at g t) xs) (range_with_len 0 k)
      ∙ sum-same (λ t. h (length (vars_of (stores_at g t) xs))) (λ t. h (destined_stores g table k sc t)) (range_with_len 0 k) (λ t. ap h (size-vars (stores_at g t) 0 (launches_from g table (allocation_in sc) k (first_cycle_in sc)) ∙ destined-stores t)) in
      sum_by-append (λ (c : List Lit). h (length c)) (held_groups k ms) (store_groups g k xs)
      ∙ ap (λ n. n + sum_by (λ (c : List Lit). h (length c)) (store_groups g k xs)) a
      ∙ ap (λ n. (k + 1) * h (held_count g) + n) b

  -- the counts of the formula of cycles, slots and values are given to these by its law
  pub memory-vars : after_counters g table k e ≡ cycle_vars g table k sc → after_memory g table k e ≡ cycle_vars g table k sc + memory_vars g table k sc
  memory-vars cycles =
      let m = counters_vars 1 (memory_groups g table k e) in
      let h = length (all_held g k) in
      ap (λ n. n + h + k + m) cycles
      ∙ ap (λ n. cycle_vars g table k sc + n + k + m) held-size
      ∙ ap (λ n. cycle_vars g table k sc + held_count g * (k + 1) + k + n) (groups (at_most_vars 1))
      ∙ (let s : (a b c d : ℕ) → a + b + c + d ≡ a + (b + c + d) = λ a b c d. omega arith in s (cycle_vars g table k sc) (held_count g * (k + 1)) k ((k + 1) * at_most_vars 1 (held_count g) + sum_by (λ t. at_most_vars 1 (destined_stores g table k sc t)) (range_with_len 0 k)))

  entry-size : length (entry_clauses g (held_vars g table k e)) ≡ 1 + count_by (λ c. not (c == g.entry)) (memory_classes g)
  entry-size =
      let b : ℕ → Bool = λ c. not (c == g.entry) in
      let wrong : Held → List (List Lit) = λ m. when ((m.cycle == 0) && not (m.class == g.entry)) ([] ∷ []) in
      let inner : (c : ℕ) → sum_by (λ t. length (when ((t == 0) && b c) ([] ∷ []))) (range_with_len 0 (k + 1)) ≡ one_if (b c) = λ c.
      sum-same (λ t. length (when ((t == 0) && b c) ([] ∷ []))) (λ t. one_if (b c && (t == 0))) (range_with_len 0 (k + 1)) (λ t. size-one ((t == 0) && b c) [] ∙ ap one_if (and_swap (t == 0) (b c)))
      ∙ first_cycle k (b c) ∙ (let z : one_if (b c) * 1 ≡ one_if (b c) = omega arith in z) in
      let rest : length (implied (held_vars g table k e) wrong) ≡ count_by b (memory_classes g) =
      size-implied wrong (after_counters g table k e) (all_held g k) ∙ held_sum (λ m. length (wrong m))
      ∙ sum-same (λ c. sum_by (λ t. length (when ((t == 0) && b c) ([] ∷ []))) (range_with_len 0 (k + 1))) (λ c. one_if (b c)) (memory_classes g) inner in
      ap suc rest ∙ (let s : (n : ℕ) → suc n ≡ 1 + n = λ n. omega arith in s (count_by b (memory_classes g)))

  use-size : length (memory_clauses g (launch_vars e) (held_vars g table k e) (store_vars g table k e)) ≡ sum_destined g table k sc (λ row to. one_if (row_is g is_load row || row_is g is_store row) + one_if (row_is g is_store row) * 2)
  use-size =
      let ms = held_vars g table k e in
      let ws = store_vars g table k e in
      let a : Launch → List (List Lit) = λ l. vars_of (is_held_at (memory_class_at g l.row) l.cycle) ms ∷ [] in
      let b : Launch → List (List Lit) = λ l. vars_of (is_held_at (class_at g l.row) (l.cycle + 1)) ms ∷ vars_of (λ t. t == l.cycle) ws ∷ [] in
      size-implied (λ l. when (uses_memory g l) (a l) ++ when (launches g is_store l) (b l)) 0 (launches_from g table (allocation_in sc) k (first_cycle_in sc))
      ∙ sum-same (λ l. length (when (uses_memory g l) (a l) ++ when (launches g is_store l) (b l))) (λ (l : Launch). one_if (row_is g is_load l.row || row_is g is_store l.row) + one_if (row_is g is_store l.row) * 2) (launches_from g table (allocation_in sc) k (first_cycle_in sc))
      (λ l. length-append (when (uses_memory g l) (a l)) (when (launches g is_store l) (b l)) ∙ ap (λ n. n + length (when (launches g is_store l) (b l))) (size-one (uses_memory g l) (vars_of (is_held_at (memory_class_at g l.row) l.cycle) ms)) ∙ ap (λ n. one_if (uses_memory g l) + n) (size-when (launches g is_store l) (b l)))
      ∙ sum-destined g table k sc (λ row to. one_if (row_is g is_load row || row_is g is_store row) + one_if (row_is g is_store row) * 2)

  kept-size : length (kept_clauses g k (launch_vars e) (held_vars g table k e) (store_vars g table k e)) ≡ k * (1 + held_count g)
  kept-size =
      let xs = launch_vars e in
      let ms = held_vars g table k e in
      let ws = store_vars g table k e in
      let a : ℕ → ℕ → List (List Lit) = λ t c. when (c == t) (vars_of (stores_at g t) xs ∷ []) in
      let b : ℕ → Held → List (List Lit) = λ t m. when (m.cycle == t) ((vars_of (λ c. c == t) ws ++ vars_of (is_held_at m.class (t + 1)) ms) ∷ []) in
      let each : (t : ℕ) → Contains (range_with_len 0 k) t → length (implied ws (a t) ++ implied ms (b t)) ≡ 1 + held_count g = λ t ht.
      let lt : t < k = (let r = (range-out 0 k t ht).1 in omega arith) in
      length-append (implied ws (a t)) (implied ms (b t))
      ∙ ap (λ n. n + length (implied ms (b t))) (size-implied (a t) (before_stores g table k e) (range_with_len 0 k) ∙ sum-same (λ c. length (a t c)) (λ c. one_if (c == t)) (range_with_len 0 k) (λ c. size-one (c == t) (vars_of (stores_at g t) xs)) ∙ count-first k t lt)
      ∙ ap (λ n. 1 + n) (size-implied (b t) (after_counters g table k e) (all_held g k) ∙ sum-same (λ m. length (b t m)) (λ (m : Held). one_if (m.cycle == t)) (all_held g k) (λ m. size-one (m.cycle == t) (vars_of (λ c. c == t) ws ++ vars_of (is_held_at m.class (t + 1)) ms)) ∙ held-cycle t (omega arith)) in
      size-flat (λ t. implied ws (a t) ++ implied ms (b t)) (range_with_len 0 k)
      ∙ same-in (λ t. length (implied ws (a t) ++ implied ms (b t))) (λ t. 1 + held_count g) (range_with_len 0 k) each
      ∙ sum-const (1 + held_count g) (range_with_len 0 k) ∙ ap (λ n. n * (1 + held_count g)) (length-range_with_len 0 k)

  -- ---- the guard

  branch-lits : length (vars_of (launches g is_branch) (launch_vars e)) ≡ destined_branches g table k sc
  branch-lits = size-vars (launches g is_branch) 0 (launches_from g table (allocation_in sc) k (first_cycle_in sc)) ∙ sum-destined g table k sc (λ row to. one_if (row_is g is_branch row))

  guard_vars_in : (b : Bool) (n : ℕ) (lits : List Lit) → length lits ≡ n → length (when b (range_with_len 0 k)) + counters_vars 1 (when b (lits ∷ [])) ≡ cond b (k + at_most_vars 1 n) 0
  guard_vars_in true n lits e =
      ap (λ m. m + counters_vars 1 (lits ∷ [])) (length-range_with_len 0 k)
      ∙ ap (λ m. k + m) (sum_by-cons (λ (c : List Lit). at_most_vars 1 (length c)) lits [] ∙ (let z : at_most_vars 1 (length lits) + 0 ≡ at_most_vars 1 (length lits) = omega arith in z) ∙ ap (at_most_vars 1) e)
  guard_vars_in false n lits e = refl

  pub guard-vars : after_counters g table k e ≡ cycle_vars g table k sc → after_guard g table k e ≡ cycle_vars g table k sc + memory_vars g table k sc + guard_vars g table k sc
  guard-vars cycles =
      let b = length (earliest_cycles g table k e) in
      let c = counters_vars 1 (branch_groups g (launch_vars e)) in
      ap (λ n. n + b + c) (memory-vars cycles)
      ∙ (let s : (x y z : ℕ) → x + y + z ≡ x + (y + z) = λ x y z. omega arith in s (cycle_vars g table k sc + memory_vars g table k sc) b c)
      ∙ ap (λ n. cycle_vars g table k sc + memory_vars g table k sc + n) (guard_vars_in (is_some g.guard) (destined_branches g table k sc) (vars_of (launches g is_branch) (launch_vars e)) branch-lits)

  -- ---- registers

  taken-size : length (all_taken table k) ≡ taken_places table k
  taken-size =
      size-flat (λ s. map {B = Taken} (λ t. record { slot = s; cycle = t }) (range_with_len 0 k)) (range_with_len 0 (length table.slots))
      ∙ sum-same (λ s. length (map {B = Taken} (λ t. record { slot = s; cycle = t }) (range_with_len 0 k))) (λ s. k) (range_with_len 0 (length table.slots)) (λ s. size-map {A = Taken} (λ t. record { slot = s; cycle = t }) (range_with_len 0 k) ∙ length-range_with_len 0 k)
      ∙ sum-const k (range_with_len 0 (length table.slots)) ∙ ap (λ n. n * k) (length-range_with_len 0 (length table.slots))

  taken-lits : length (vars_of any (taken_vars g table k e)) ≡ taken_places table k
  taken-lits = size-vars any (after_guard g table k e) (all_taken table k) ∙ count-any (all_taken table k) ∙ taken-size

  registers-vars : after_counters g table k e ≡ cycle_vars g table k sc → (pool_by g table k e Block).vars ≡ cycle_vars g table k sc + memory_vars g table k sc + guard_vars g table k sc + registers_vars g table k sc
  registers-vars cycles =
      let p = length g.pool in
      let c = counters_vars p (register_groups (taken_vars g table k e)) in
      ap (λ n. n + length (all_taken table k) + c) (guard-vars cycles)
      ∙ ap (λ n. cycle_vars g table k sc + memory_vars g table k sc + guard_vars g table k sc + n + c) taken-size
      ∙ ap (λ n. cycle_vars g table k sc + memory_vars g table k sc + guard_vars g table k sc + taken_places table k + n) (sum_by-cons (λ (c : List Lit). at_most_vars p (length c)) (vars_of any (taken_vars g table k e)) [] ∙ (let z : at_most_vars p (length (vars_of any (taken_vars g table k e))) + 0 ≡ at_most_vars p (length (vars_of any (taken_vars g table k e))) = omega arith in z) ∙ ap (at_most_vars p) taken-lits)
      ∙ (let s : (x y z : ℕ) → x + y + z ≡ x + (y + z) = λ x y z. omega arith in s (cycle_vars g table k sc + memory_vars g table k sc + guard_vars g table k sc) (taken_places table k) (at_most_vars p (taken_places table k)))

  -- counters of what is held by live ranges
  hold-counts : (h : ℕ → ℕ) → sum_by (λ (c : List Lit). h (length c)) (hold_groups k (hold_vars g table k e)) ≡ sum_by (λ t. h (length table.slots * (t + 1))) (range_with_len 0 k)
  hold-counts h =
      sum-map (λ (c : List Lit). h (length c)) (λ t. vars_of (λ (x : Hold). x.cycle == t) (hold_vars g table k e)) (range_with_len 0 k)
      ∙ same-in (λ t. h (length (vars_of (λ (x : Hold). x.cycle == t) (hold_vars g table k e)))) (λ t. h (length table.slots * (t + 1))) (range_with_len 0 k)
      (λ t ht. ap h (cycle-size table k (before_holds g table k e) t (let b = (range-out 0 k t ht).1 in omega arith)))

  live-vars : after_counters g table k e ≡ cycle_vars g table k sc → (pool_by g table k e Live).vars ≡ cycle_vars g table k sc + memory_vars g table k sc + guard_vars g table k sc + live_vars g table k sc
  live-vars cycles =
      let a = all-needs-size g table k sc in
      let b = holds-are-counted table k in
      let c = hold-counts (at_most_vars (length g.pool)) in
      let d = guard-vars cycles in
      omega (arith, a, b, c, d)

  pool-vars-of : after_counters g table k e ≡ cycle_vars g table k sc → (a : Allocation) → (pool_by g table k e a).vars ≡ cycle_vars g table k sc + memory_vars g table k sc + guard_vars g table k sc + pool_vars g table k sc a
  pool-vars-of cycles Block = registers-vars cycles
  pool-vars-of cycles Live = live-vars cycles

  pub pool-vars : after_counters g table k e ≡ cycle_vars g table k sc → (pool_formula g table k e).vars ≡ cycle_vars g table k sc + memory_vars g table k sc + guard_vars g table k sc + pool_vars g table k sc (allocation_in sc)
  pool-vars cycles = pool-vars-of cycles (allocation_in sc)

  module _ (size : (old p : ℕ) (lits : List Lit) → length (at_most_clauses old p lits) ≡ at_most_size p (length lits)) where
    memory-size : length (memory_part g table k e) ≡ memory_size g table k sc
    memory-size =
        let c5 = entry_clauses g (held_vars g table k e) in
        let c6 = memory_clauses g (launch_vars e) (held_vars g table k e) (store_vars g table k e) in
        let c7 = kept_clauses g k (launch_vars e) (held_vars g table k e) (store_vars g table k e) in
        let c8 = counters (before_held g table k e) 1 (memory_groups g table k e) in
        let c10 = last_memory_clauses g k (held_vars g table k e) in
        let n5 = 1 + count_by (λ c. not (c == g.entry)) (memory_classes g) in
        let n6 = sum_destined g table k sc (λ row to. one_if (row_is g is_load row || row_is g is_store row) + one_if (row_is g is_store row) * 2) in
        let n7 = k * (1 + held_count g) in
        length-append (c5 ++ c6 ++ c7 ++ c8) c10
        ∙ ap (λ n. n + 1) (length-append (c5 ++ c6 ++ c7) c8 ∙ ap (λ n. n + length c8) (length-append (c5 ++ c6) c7 ∙ ap (λ n. n + length c7) (length-append c5 c6)))
        ∙ ap (λ n. n + length c6 + length c7 + length c8 + 1) entry-size
        ∙ ap (λ n. n5 + n + length c7 + length c8 + 1) use-size
        ∙ ap (λ n. n5 + n6 + n + length c8 + 1) kept-size
        ∙ ap (λ n. n5 + n6 + n7 + n + 1) (counters-size 1 size (before_held g table k e) (memory_groups g table k e) ∙ groups (at_most_size 1))

    guard_in : (b : Bool) (n w : ℕ) (lits : List Lit) (old : ℕ) (ws cs : List (List Lit)) → length lits ≡ n → length ws ≡ w → length cs ≡ cond b k 0 → length (when b (lits ∷ []) ++ counters old 1 (when b (lits ∷ [])) ++ when b ws ++ when b cs) ≡ cond b (1 + at_most_size 1 n + w + k) 0
    guard_in true n w lits old ws cs el ew ec =
        length-append ((lits ∷ []) ++ counters old 1 (lits ∷ []) ++ ws) cs
        ∙ ap (λ m. m + length cs) (length-append ((lits ∷ []) ++ counters old 1 (lits ∷ [])) ws ∙ ap (λ m. m + length ws) (length-append (lits ∷ []) (counters old 1 (lits ∷ [])) ∙ ap (λ m. 1 + m) (counters-size 1 size old (lits ∷ []) ∙ sum_by-cons (λ (c : List Lit). at_most_size 1 (length c)) lits [] ∙ (let z : at_most_size 1 (length lits) + 0 ≡ at_most_size 1 (length lits) = omega arith in z) ∙ ap (at_most_size 1) el)))
        ∙ ap (λ m. 1 + at_most_size 1 n + m + length cs) ew
        ∙ ap (λ m. 1 + at_most_size 1 n + w + m) ec
    guard_in false n w lits old ws cs el ew ec = refl

    come_in : (b : Bool) → length (when b (range_with_len 0 k)) ≡ cond b k 0
    come_in true = length-range_with_len 0 k
    come_in false = refl

    guard-size : length (guard_part g table k e) ≡ guard_size g table k sc
    guard-size =
        let xs = launch_vars e in
        let bs = come_vars g table k e in
        let f : Launch → List (List Lit) = λ l. when (waits g l) (vars_of (λ t. t == l.cycle) bs ∷ []) in
        let w = sum_destined g table k sc (λ row to. one_if (row_is g is_store row || (row_is g is_load row && is_held g))) in
        let ew : length (implied xs f) ≡ w =
        size-implied f 0 (launches_from g table (allocation_in sc) k (first_cycle_in sc)) ∙ sum-same (λ l. length (f l)) (λ (l : Launch). one_if (row_is g is_store l.row || (row_is g is_load l.row && is_held g))) (launches_from g table (allocation_in sc) k (first_cycle_in sc)) (λ l. size-one (waits g l) (vars_of (λ t. t == l.cycle) bs))
        ∙ sum-destined g table k sc (λ row to. one_if (row_is g is_store row || (row_is g is_load row && is_held g))) in
        let ec : length (implied bs (λ t. vars_of (branches_by g t) xs ∷ [])) ≡ cond (is_some g.guard) k 0 =
        size-implied (λ t. vars_of (branches_by g t) xs ∷ []) (after_memory g table k e) (earliest_cycles g table k e) ∙ sym (size-ones (earliest_cycles g table k e)) ∙ come_in (is_some g.guard) in
        guard_in (is_some g.guard) (destined_branches g table k sc) w (vars_of (launches g is_branch) xs) (before_branch g table k e) (implied xs f) (implied bs (λ t. vars_of (branches_by g t) xs ∷ [])) branch-lits ew ec

    registers-size : length (registers_part g table k e) ≡ registers_size g table k sc
    registers-size =
        let xs = launch_vars e in
        let us = taken_vars g table k e in
        let p = length g.pool in
        let n = sum_destined g table k sc (λ row to. one_if (is_pool to && row_is g gives_word row)) in
        let f : Launch → List (List Lit) = λ l. when (takes_pool g l) (vars_of (is_taken_at l.slot l.cycle) us ∷ []) in
        length-append (pool_clauses g xs us) (counters (before_pool g table k e) p (register_groups us))
        ∙ ap (λ n. n + length (counters (before_pool g table k e) p (register_groups us))) (size-implied f 0 (launches_from g table (allocation_in sc) k (first_cycle_in sc)) ∙ sum-same (λ l. length (f l)) (λ (l : Launch). one_if (is_pool l.to && row_is g gives_word l.row)) (launches_from g table (allocation_in sc) k (first_cycle_in sc)) (λ l. size-one (takes_pool g l) (vars_of (is_taken_at l.slot l.cycle) us)) ∙ sum-destined g table k sc (λ row to. one_if (is_pool to && row_is g gives_word row)))
        ∙ ap (λ m. n + m) (counters-size p size (before_pool g table k e) (register_groups us) ∙ sum_by-cons (λ (c : List Lit). at_most_size p (length c)) (vars_of any us) [] ∙ (let z : at_most_size p (length (vars_of any us)) + 0 ≡ at_most_size p (length (vars_of any us)) = omega arith in z) ∙ ap (at_most_size p) taken-lits)

    live-size : length (live_part g table k e) ≡ live_size g table k sc
    live-size =
        let xs = launch_vars e in
        let ns = need_vars g table k e in
        let hs = hold_vars g table k e in
        let vs = overwritten_vars g table k e in
        let a = need_clauses g xs ns in
        let b = earlier_clauses ns in
        let c = live.last_need_clauses g k xs ns vs in
        let d = hold_clauses g k xs ns hs in
        let f = counters (before_counts g table k e) (length g.pool) (hold_groups k hs) in
        let na = sum_destined g table k sc (λ row to. count_by (is_pooled_operand_in g table k sc) (operands_at g row)) in
        let nb = pooled_count g table k sc * (k - 1) in
        let nc = count_by (λ t. is_made_target g t && is_pooled_in g table k sc t.class) g.sets in
        let nd = sum_by (λ row. one_if (row_is g gives_word row) * row_holds g table k sc row) (row_numbers g) in
        length-append (a ++ b ++ c ++ d) f
        ∙ ap (λ n. n + length f) (length-append (a ++ b ++ c) d ∙ ap (λ n. n + length d) (length-append (a ++ b) c ∙ ap (λ n. n + length c) (length-append a b)))
        ∙ ap (λ n. n + length b + length c + length d + length f) (operand-needs-size g table k sc ns)
        ∙ ap (λ n. na + n + length c + length d + length f) (earlier-size g table k sc (after_guard g table k e))
        ∙ ap (λ n. na + nb + n + length d + length f) (last-size g table k sc ns vs)
        ∙ ap (λ n. na + nb + nc + n + length f) (hold-clauses-size g table k sc ns hs)
        ∙ ap (λ n. na + nb + nc + nd + n) (counters-size (length g.pool) size (before_counts g table k e) (hold_groups k hs) ∙ hold-counts (at_most_size (length g.pool)))

    pool-size-of : (a : Allocation) → length (pool_part_of g table k e a) ≡ pool_size g table k sc a
    pool-size-of Block = registers-size
    pool-size-of Live = live-size

    pool-size : length (pool_part g table k e) ≡ pool_size g table k sc (allocation_in sc)
    pool-size = pool-size-of (allocation_in sc)

    pub with-memory-size : length (cycle_part g table k e) ≡ cycle_size g table k sc → length (memory_formula g table k e).clauses ≡ cycle_size g table k sc + memory_size g table k sc
    with-memory-size cycles =
        let a = cycle_part g table k e in
        let b = memory_part g table k e in
        length-append a b ∙ ap (λ n. n + length b) cycles ∙ ap (λ n. cycle_size g table k sc + n) memory-size

    pub with-guard-size : length (cycle_part g table k e) ≡ cycle_size g table k sc → length (guard_formula g table k e).clauses ≡ cycle_size g table k sc + memory_size g table k sc + guard_size g table k sc
    with-guard-size cycles =
        let c = guard_part g table k e in
        length-append (cycle_part g table k e ++ memory_part g table k e) c ∙ ap (λ n. n + length c) (with-memory-size cycles) ∙ ap (λ n. cycle_size g table k sc + memory_size g table k sc + n) guard-size

    pub with-pool-size : length (cycle_part g table k e) ≡ cycle_size g table k sc → length (pool_formula g table k e).clauses ≡ cycle_size g table k sc + memory_size g table k sc + guard_size g table k sc + pool_size g table k sc (allocation_in sc)
    with-pool-size cycles =
        let a = cycle_part g table k e in
        let b = memory_part g table k e in
        let c = guard_part g table k e in
        let d = pool_part g table k e in
        ap (λ (cs : List (List Lit)). length cs) (pool-clauses g table k e) ∙ length-append (a ++ b ++ c) d
        ∙ ap (λ n. n + length d) (length-append (a ++ b) c ∙ ap (λ n. n + length c) (length-append a b))
        ∙ ap (λ n. n + length b + length c + length d) cycles
        ∙ ap (λ n. cycle_size g table k sc + n + length c + length d) memory-size
        ∙ ap (λ n. cycle_size g table k sc + memory_size g table k sc + n + length d) guard-size
        ∙ ap (λ n. cycle_size g table k sc + memory_size g table k sc + guard_size g table k sc + n) pool-size

-- ---- pins

module _ (g : LaunchGraph) (table : Table) (k : ℕ) (sc : Scope) where
  -- what is overwritten of a set in a cycle has one variable
  over_sum : (F : Overwritten → ℕ) → sum_by F (all_overwritten g k) ≡ sum_by (λ j. sum_by (λ t. F (record { set = j; cycle = t })) (range_with_len 0 (k + 1))) (overwriting_sets g)
  over_sum F =
      sum-flat F (λ j. map (λ t. record { set = j; cycle = t }) (range_with_len 0 (k + 1))) (overwriting_sets g)
      ∙ sum-same (λ j. sum_by F (map (λ t. record { set = j; cycle = t }) (range_with_len 0 (k + 1)))) (λ j. sum_by (λ t. F (record { set = j; cycle = t })) (range_with_len 0 (k + 1))) (overwriting_sets g) (λ j. sum-map F (λ t. record { set = j; cycle = t }) (range_with_len 0 (k + 1)))

  -- one of the first cycles, where the test holds
  cycle_if : (t : ℕ) → t < k + 1 → (b : Bool) → sum_by (λ y. one_if (b && (y == t))) (range_with_len 0 (k + 1)) ≡ one_if b
  cycle_if t lt true = count-first (k + 1) t lt
  cycle_if t lt false = sum-const 0 (range_with_len 0 (k + 1)) ∙ (let z : length (range_with_len 0 (k + 1)) * 0 ≡ 0 = omega arith in z)

  over-once : (j t : ℕ) → Contains (overwriting_sets g) j → t < k + 1 → count_by (is_overwritten_at j t) (all_overwritten g k) ≡ 1
  over-once j t c lt =
      over_sum (λ v. one_if (is_overwritten_at j t v))
      ∙ sum-same (λ i. sum_by (λ y. one_if ((i == j) && (y == t))) (range_with_len 0 (k + 1))) (λ i. one_if (i == j)) (overwriting_sets g) (λ i. cycle_if t lt (i == j))
      ∙ count-this (overwriting_sets g) j (filter-once (is_overwriting g) (set_numbers g) (range-once 0 (length g.sets)))
      ∙ ap one_if (some_in (λ i. i == j) (overwriting_sets g) j c (eq-eqb j j refl))

  goes-count : (j : ℕ) → count_by (goes_to j) (launches_from g table (allocation_in sc) k (first_cycle_in sc)) ≡ goes_count g table k sc j
  goes-count j = sum-destined g table k sc (λ row to. one_if (is_set j to))

  abbrev xs : List (ℕ × Launch)
  xs = launch_vars (listed_in g table k sc)

  -- what goes to the pinned sets
  pin-groups : (h : ℕ → ℕ) → sum_by (λ (c : List Lit). h (length c)) (pin_groups g xs) ≡ sum_by (λ j. h (goes_count g table k sc j)) (pinned_sets g)
  pin-groups h =
      sum-map (λ (c : List Lit). h (length c)) (λ j. vars_of (goes_to j) xs) (pinned_sets g)
      ∙ sum-same (λ j. h (length (vars_of (goes_to j) xs))) (λ j. h (goes_count g table k sc j)) (pinned_sets g) (λ j. ap h (size-vars (goes_to j) 0 (launches_from g table (allocation_in sc) k (first_cycle_in sc)) ∙ goes-count j))

  set-size : (n : ℕ) (j : ℕ) → Contains (overwriting_sets g) j → length (set_clauses k xs (numbered n (all_overwritten g k)) j) ≡ goes_count g table k sc j + k
  set-size n j c =
      let vs = numbered n (all_overwritten g k) in
      let a = implied xs (overwrites_next vs j) in
      let f : ℕ → Overwritten → List (List Lit) = stays_overwritten vs j in
      let b = flat_map (λ t. implied vs (f t)) (range_with_len 0 k) in
      let la : length a ≡ goes_count g table k sc j =
      size-implied (overwrites_next vs j) 0 (launches_from g table (allocation_in sc) k (first_cycle_in sc))
      ∙ sum-same (λ l. length (overwrites_next vs j l)) (λ l. one_if (goes_to j l)) (launches_from g table (allocation_in sc) k (first_cycle_in sc)) (λ l. size-one (goes_to j l) (vars_of (is_overwritten_at j (l.cycle + 1)) vs))
      ∙ goes-count j in
      let lb : length b ≡ k =
      size-flat (λ t. implied vs (f t)) (range_with_len 0 k)
      ∙ same-in (λ t. length (implied vs (f t))) (λ t. 1) (range_with_len 0 k) (λ t ht.
      let lt : t < k = (let r = (range-out 0 k t ht).1 in omega arith) in
      size-implied (f t) n (all_overwritten g k)
      ∙ sum-same (λ v. length (f t v)) (λ v. one_if (is_overwritten_at j t v)) (all_overwritten g k) (λ v. size-one (is_overwritten_at j t v) (vars_of (is_overwritten_at j (t + 1)) vs))
      ∙ over-once j t c (omega arith))
      ∙ sym (size-ones (range_with_len 0 k)) ∙ length-range_with_len 0 k in
      length-append a b ∙ ap (λ m. m + length b) la ∙ ap (λ m. goes_count g table k sc j + m) lb

  over-size : (n : ℕ) → length (overwritten_clauses g k xs (numbered n (all_overwritten g k))) ≡ sum_by (λ j. goes_count g table k sc j + k) (overwriting_sets g)
  over-size n =
      let vs = numbered n (all_overwritten g k) in
      size-flat (set_clauses k xs vs) (overwriting_sets g)
      ∙ same-in (λ j. length (set_clauses k xs vs j)) (λ j. goes_count g table k sc j + k) (overwriting_sets g) (set-size n)

  late_in : (b : Bool) (cs : List (List Lit)) → length cs ≡ late_count g table k sc → length (when b cs) ≡ cond b (late_count g table k sc) 0
  late_in true cs h = h
  late_in false cs h = refl

  late-size : (bs : List (ℕ × ℕ)) → length (late_clauses g xs bs) ≡ cond (is_some g.guard) (late_count g table k sc) 0
  late-size bs =
      late_in (is_some g.guard) (implied xs (overwrites_after g bs))
      (size-implied (overwrites_after g bs) 0 (launches_from g table (allocation_in sc) k (first_cycle_in sc))
      ∙ sum-same (λ l. length (overwrites_after g bs l)) (λ (l : Launch). one_if (overwrites_at g l.to)) (launches_from g table (allocation_in sc) k (first_cycle_in sc)) (λ l. size-one (overwrites g l) (vars_of (λ t. t == l.cycle) bs))
      ∙ sum-destined g table k sc (λ row to. one_if (overwrites_at g to)))

  load-size : (ws : List (ℕ × ℕ)) → length (load_clauses g xs ws) ≡ over_load_count g table k sc
  load-size ws =
      size-implied (loads_alone g ws) 0 (launches_from g table (allocation_in sc) k (first_cycle_in sc))
      ∙ sum-same (λ l. length (loads_alone g ws l)) (λ (l : Launch). one_if (row_is g is_load l.row && overwrites_at g l.to)) (launches_from g table (allocation_in sc) k (first_cycle_in sc)) (λ l. size-one (launches g is_load l && overwrites g l) (negated (λ t. t == l.cycle) ws))
      ∙ sum-destined g table k sc (λ row to. one_if (row_is g is_load row && overwrites_at g to))

  pub pins-vars : after_counters g table k (listed_in g table k sc) ≡ cycle_vars g table k sc → (pins_formula g table k (listed_in g table k sc)).vars ≡ cycle_vars g table k sc + memory_vars g table k sc + guard_vars g table k sc + pool_vars g table k sc (allocation_in sc) + pins_vars g table k sc
  pins-vars cycles =
      ap (λ n. n + counters_vars 1 (pin_groups g xs)) (pool-vars g table k sc cycles)
      ∙ ap (λ n. cycle_vars g table k sc + memory_vars g table k sc + guard_vars g table k sc + pool_vars g table k sc (allocation_in sc) + n) (pin-groups (at_most_vars 1))

  module _ (size : (old p : ℕ) (lits : List Lit) → length (at_most_clauses old p lits) ≡ at_most_size p (length lits)) where
    pins-size : length (pins_part g table k (listed_in g table k sc)) ≡ pins_size g table k sc
    pins-size =
        let e = listed_in g table k sc in
        let c1 = overwritten_clauses g k xs (overwritten_vars g table k e) in
        let c2 = counters (after_pool g table k e) 1 (pin_groups g xs) in
        let c3 = pin_clauses g xs in
        let c4 = late_clauses g xs (branch_vars g table k e) in
        let c5 = load_clauses g xs (store_cycle_vars g table k e) in
        let n1 = sum_by (λ j. goes_count g table k sc j + k) (overwriting_sets g) in
        let n2 = sum_by (λ j. at_most_size 1 (goes_count g table k sc j)) (pinned_sets g) in
        let n3 = length (unmet_sets g) in
        let n4 = cond (is_some g.guard) (late_count g table k sc) 0 in
        length-append (c1 ++ c2 ++ c3 ++ c4) c5
        ∙ ap (λ n. n + length c5) (length-append (c1 ++ c2 ++ c3) c4 ∙ ap (λ n. n + length c4) (length-append (c1 ++ c2) c3 ∙ ap (λ n. n + length c3) (length-append c1 c2)))
        ∙ ap (λ n. n + length c2 + length c3 + length c4 + length c5) (over-size (before_overwritten e))
        ∙ ap (λ n. n1 + n + length c3 + length c4 + length c5) (counters-size 1 size (after_pool g table k e) (pin_groups g xs) ∙ pin-groups (at_most_size 1))
        ∙ ap (λ n. n1 + n2 + n + length c4 + length c5) (size-map (λ j. vars_of (goes_to j) xs) (unmet_sets g))
        ∙ ap (λ n. n1 + n2 + n3 + n + length c5) (late-size (branch_vars g table k e))
        ∙ ap (λ n. n1 + n2 + n3 + n4 + n) (load-size (store_cycle_vars g table k e))

    pub with-pins-size : length (cycle_part g table k (listed_in g table k sc)) ≡ cycle_size g table k sc → length (pins_formula g table k (listed_in g table k sc)).clauses ≡ cycle_size g table k sc + memory_size g table k sc + guard_size g table k sc + pool_size g table k sc (allocation_in sc) + pins_size g table k sc
    with-pins-size cycles =
        let e = listed_in g table k sc in
        let p = pins_part g table k e in
        length-append (pool_formula g table k e).clauses p
        ∙ ap (λ n. n + length p) (with-pool-size g table k sc size cycles)
        ∙ ap (λ n. cycle_size g table k sc + memory_size g table k sc + guard_size g table k sc + pool_size g table k sc (allocation_in sc) + n) pins-size
