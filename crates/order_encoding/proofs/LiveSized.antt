-- The counts of registers by live ranges.
use Rattle.std.proofs.Common.{◌≡◌, ℕ, zero, suc, ◌+◌, ◌-◌, ◌*◌, ◌<◌, ◌≤◌, Bool, true, false, not, cond, List, [], ◌∷◌, length, map, refl, sym, ap, ◌∙◌, arith, inl, inr, Option, Some, None}
use Rattle.std.specs.Prelude.{◌&&◌, ◌||◌, ◌==◌, nat_lt}
use Rattle.std.specs.Option.{option_map_or}
use Rattle.std.specs.List.{count_by, filter, list_any, range_with_len, sum_by}
use Rattle.std.proofs.lemmas.Bool.{cases_lt, lt-ltb, le-ltb, ne_eqb}
use Rattle.std.proofs.lemmas.List.Sums.{length-filter, sum_by-cons}
use Rattle.std.proofs.lemmas.List.FromFn.{length-map-range_with_len, length-range_with_len}
use Rattle.cnf_core.specs.declared.literal.Lit.{Lit}
use Rattle.machine_table.specs.declared.tables.InstrKind.{InstrKind}
use Rattle.machine_table.specs.declared.tables.Table.{Table}
use Rattle.machine_table.specs.declared.tables.Use.{Use}
use Rattle.graph_meaning.specs.declared.graphs.LaunchGraph.{LaunchGraph}
use Rattle.graph_meaning.specs.declared.graphs.SetClass.{SetClass}
use Rattle.schedule_meaning.specs.Launches.{class_at, gives_word, instr_at, is_pool, operands_at, takes_pool}
use Rattle.schedule_meaning.specs.declared.schedules.Allocation.{Allocation}
use Rattle.schedule_meaning.specs.declared.schedules.Launch.{Launch}
use Rattle.schedule_meaning.specs.declared.schedules.Operand.{Operand}
use Rattle.schedule_meaning.specs.declared.schedules.To.{To}
use Rattle.schedule_meaning.specs.declared.schedules.To.TheVariants.{Pool, Set}
use Rattle.schedule_meaning.proofs.LiveRanges.{same_tests}
use Rattle.cycle_encoding.specs.Counts.{cycles_of, one_if, row_count, row_destinations, row_is, sum_destined}
use Rattle.cycle_encoding.specs.CycleFormula.{Scope, allocation_in, first_cycle_in}
use Rattle.cycle_encoding.specs.Families.{is_free, is_made_target}
use Rattle.cycle_encoding.specs.Shapes.{numbered, vars_of, when}
use Rattle.cycle_encoding.specs.Variables.{classes_of, destinations, launches_from, Overwritten, row_launches, row_numbers, set_numbers, slots_of, takes, use_launches}
use Rattle.cycle_encoding.proofs.Counting.{sum-same}
use Rattle.cycle_encoding.proofs.Launched.{same-in, size-map}
use Rattle.cycle_encoding.proofs.Members.{range-out}
use Rattle.cycle_encoding.proofs.PinnedTotals.{by_row, sum-destined, times_instr, use_sum}
use Rattle.cycle_encoding.proofs.Tallies.{sum_more}
use Rattle.cycle_encoding.proofs.Totals.{size-flat, size-implied, size-ones, sum-const, sum-flat, sum-map, sum-times}
use Rattle.order_encoding.specs.LiveVariables.{Hold, Need, all_holds, all_needs, is_pooled, pooled_classes, pools}
use Rattle.order_encoding.specs.LiveFamilies.{is_hold_at, is_need_at, is_pooled_operand, is_pooled_target, operand_needs, need_clauses, was_needed, earlier_clauses, target_needs, last_need_clauses, holds_while, holds_register, hold_clauses}
use Rattle.order_encoding.specs.OrderCounts.{is_pooled_in, is_pooled_operand_in, pooled_count, row_gives, row_holds}
use Rattle.order_encoding.specs.OrderSteps.{class_needs, need_at, slot_lits}
use Rattle.order_encoding.proofs.HoldPlaces.{is-hold}
use Rattle.order_encoding.proofs.HoldSteps.{cycle-lits}
use Rattle.order_encoding.proofs.NeedPlaces.{needs-size}
use Rattle.order_encoding.proofs.NeedSteps.{any-numbered}

-- ---- which sums are above 0

pos_add : (a b : ℕ) → nat_lt 0 (a + b) ≡ (nat_lt 0 a || nat_lt 0 b)
pos_add a b =
    elim (cases_lt 0 a) [
      | inl lt ↦ lt-ltb 0 (a + b) (omega arith) ∙ sym (ap (λ c. c || nat_lt 0 b) (lt-ltb 0 a lt))
      | inr le ↦ (let e : a + b ≡ b = omega arith in ap (nat_lt 0) e ∙ sym (ap (λ c. c || nat_lt 0 b) (le-ltb 0 a le)))
    ]

pos_sum : {X : Type 0} (f : X → ℕ) (xs : List X) → nat_lt 0 (sum_by f xs) ≡ list_any (λ x. nat_lt 0 (f x)) xs
pos_sum f [] = refl
pos_sum f (x ∷ xs) = ap (nat_lt 0) (sum_by-cons f x xs) ∙ pos_add (f x) (sum_by f xs) ∙ ap (λ c. nat_lt 0 (f x) || c) (pos_sum f xs)

pos_one : (b : Bool) → nat_lt 0 (one_if b) ≡ b
pos_one true = refl
pos_one false = refl

any_counted : {X : Type 0} (test : X → Bool) (xs : List X) → list_any test xs ≡ nat_lt 0 (sum_by (λ x. one_if (test x)) xs)
any_counted test xs = sym (pos_sum (λ x. one_if (test x)) xs ∙ ap (λ t. list_any t xs) (same_tests (λ x. nat_lt 0 (one_if (test x))) test (λ x. pos_one (test x))))

same_counts : {X : Type 0} (f h : X → ℕ) → ((x : X) → f x ≡ h x) → f ≡ h
same_counts f h e = λ i x. e x i

and_true : (b : Bool) → (b && true) ≡ b
and_true true = refl
and_true false = refl

and_false : (b : Bool) → (b && false) ≡ false
and_false true = refl
and_false false = refl

-- ---- where a launch of a row may go: to the pool alone, as far as that counts

module _ (g : LaunchGraph) (a : Allocation) (row : ℕ) where
  none_set : (f : To → ℕ) → ((j : ℕ) → f (Set j) ≡ 0) → (sets : List ℕ) → sum_by f (map Set sets) ≡ 0
  none_set f z [] = refl
  none_set f z (j ∷ sets) = (let s = sum_by-cons f (Set j) (map Set sets) in let h = none_set f z sets in let w = z j in omega (arith, s, h, w))

  one_pool : (f : To → ℕ) → ((j : ℕ) → f (Set j) ≡ 0) → (b : Bool) (sets : List ℕ) → sum_by f (Pool ∷ cond b (map Set sets) []) ≡ f Pool
  one_pool f z true sets = (let s = sum_by-cons f Pool (map Set sets) in let h = none_set f z sets in omega (arith, s, h))
  one_pool f z false sets = (let s = sum_by-cons f Pool [] in let h : sum_by f [] ≡ 0 = refl in omega (arith, s, h))

  -- a sum over the destinations of one instruction, or none
  to_pool : (b : Bool → To → Bool) → ((c : Bool) (j : ℕ) → one_if (b c (Set j)) ≡ 0) → ((c : Bool) → b c Pool ≡ c) → (o : Option InstrKind) → sum_by (λ to. one_if (b (option_map_or gives_word o false) to)) (option_map_or (λ i. destinations g a i row) o []) ≡ one_if (option_map_or gives_word o false)
  to_pool b z p None = refl
  to_pool b z p (Some i) = one_pool (λ to. one_if (b (gives_word i) to)) (z (gives_word i)) (gives_word i) (filter (takes g a i (class_at g row)) (set_numbers g)) ∙ ap one_if (p (gives_word i))

  pub pool-alone : sum_by (λ to. one_if (is_pool to && row_is g gives_word row)) (row_destinations g a row) ≡ one_if (row_is g gives_word row)
  pool-alone = to_pool (λ c to. is_pool to && c) (λ c j. refl) (λ c. refl) (instr_at g row)

  -- and where the class is this one
  pool-of : (c : Bool) → sum_by (λ to. one_if ((is_pool to && row_is g gives_word row) && c)) (row_destinations g a row) ≡ one_if (row_is g gives_word row && c)
  pool-of true =
      ap (λ f. sum_by f (row_destinations g a row)) (same_counts (λ to. one_if ((is_pool to && row_is g gives_word row) && true)) (λ to. one_if (is_pool to && row_is g gives_word row)) (λ to. ap one_if (and_true (is_pool to && row_is g gives_word row))))
      ∙ pool-alone ∙ ap one_if (sym (and_true (row_is g gives_word row)))
  pool-of false =
      ap (λ f. sum_by f (row_destinations g a row)) (same_counts (λ to. one_if ((is_pool to && row_is g gives_word row) && false)) (λ to. 0) (λ to. ap one_if (and_false (is_pool to && row_is g gives_word row))))
      ∙ sum-const 0 (row_destinations g a row) ∙ (let z : length (row_destinations g a row) * 0 ≡ 0 = omega arith in z) ∙ ap one_if (sym (and_false (row_is g gives_word row)))

  pos_times : (n : ℕ) (b : Bool) → nat_lt 0 (n * one_if b) ≡ (b && nat_lt 0 n)
  pos_times n true = (let e : n * 1 ≡ n = omega arith in ap (nat_lt 0) e)
  pos_times n false = (let e : n * 0 ≡ 0 = omega arith in ap (nat_lt 0) e)

module _ (g : LaunchGraph) (table : Table) (k : ℕ) (s : Scope) where
  abbrev ls : List Launch
  ls = launches_from g table (allocation_in s) k (first_cycle_in s)

  abbrev xs : List (ℕ × Launch)
  xs = numbered 0 ls

  -- ---- which classes are pooled

  abbrev of_row : ℕ → ℕ → ℕ
  of_row c row = row_count g table k s row * sum_by (λ to. one_if ((is_pool to && row_is g gives_word row) && (class_at g row == c))) (row_destinations g (allocation_in s) row)

  by_rows : (c row : ℕ) → nat_lt 0 (of_row c row) ≡ (row_gives g c row && nat_lt 0 (row_count g table k s row))
  by_rows c row =
      ap (λ n. nat_lt 0 (row_count g table k s row * n)) (pool-of g (allocation_in s) row (class_at g row == c))
      ∙ pos_times g (allocation_in s) row (row_count g table k s row) (row_is g gives_word row && (class_at g row == c))

  pub pooled-is : (c : ℕ) → is_pooled g xs c ≡ is_pooled_in g table k s c
  pooled-is c =
      any-numbered (λ x. pools g c x) 0 ls
      ∙ any_counted (λ x. pools g c x) ls
      ∙ ap (nat_lt 0) (sum-destined g table k s (λ row to. one_if ((is_pool to && row_is g gives_word row) && (class_at g row == c))))
      ∙ pos_sum (of_row c) (row_numbers g)
      ∙ ap (λ t. list_any t (row_numbers g)) (same_tests (λ row. nat_lt 0 (of_row c row)) (λ row. row_gives g c row && nat_lt 0 (row_count g table k s row)) (by_rows c))

  pub pooled-size : length (pooled_classes g xs) ≡ pooled_count g table k s
  pooled-size = length-filter (is_pooled g xs) (classes_of g) ∙ ap (λ t. count_by t (classes_of g)) (same_tests (is_pooled g xs) (is_pooled_in g table k s) pooled-is)

  -- ---- what is needed

  needs_sum : (f : Need → ℕ) (m : ℕ) → ((c : ℕ) → sum_by f (class_needs k c) ≡ m) → sum_by f (all_needs k (pooled_classes g xs)) ≡ pooled_count g table k s * m
  needs_sum f m each =
      sum-flat f (class_needs k) (pooled_classes g xs)
      ∙ sum-same (λ c. sum_by f (class_needs k c)) (λ c. m) (pooled_classes g xs) each
      ∙ sum-const m (pooled_classes g xs) ∙ ap (λ n. n * m) pooled-size

  pub all-needs-size : length (all_needs k (pooled_classes g xs)) ≡ pooled_count g table k s * k
  all-needs-size = size-ones (all_needs k (pooled_classes g xs)) ∙ needs_sum (λ n. 1) k (λ c. sym (size-ones (class_needs k c)) ∙ needs-size k c)

  pub operand-needs-size : (ns : List (ℕ × Need)) → length (need_clauses g xs ns) ≡ sum_destined g table k s (λ row to. count_by (is_pooled_operand_in g table k s) (operands_at g row))
  operand-needs-size ns =
      size-implied (operand_needs g xs ns) 0 ls
      ∙ sum-same (λ l. length (operand_needs g xs ns l)) (λ (l : Launch). count_by (is_pooled_operand_in g table k s) (operands_at g l.row)) ls
      (λ l. size-map (λ (o : Operand). vars_of (is_need_at o.class l.cycle) ns) (filter (is_pooled_operand g xs) (operands_at g l.row))
      ∙ length-filter (is_pooled_operand g xs) (operands_at g l.row)
      ∙ ap (λ t. count_by t (operands_at g l.row)) (same_tests (is_pooled_operand g xs) (is_pooled_operand_in g table k s) (λ o. ap (λ b. not (is_free g o) && b) (pooled-is o.class))))
      ∙ sum-destined g table k s (λ row to. count_by (is_pooled_operand_in g table k s) (operands_at g row))

  later_cycles : (n : ℕ) → sum_by (λ t. one_if (not (t == 0))) (range_with_len 0 n) ≡ n - 1
  later_cycles zero = refl
  later_cycles (suc zero) = refl
  later_cycles (suc (suc n)) =
      let e : suc (suc n) ≡ suc n + 1 = omega arith in
      let ne : (suc n == 0) ≡ false = ne_eqb (suc n) 0 (λ z. absurd (omega arith)) in
      let last : one_if (not (suc n == 0)) ≡ 1 = ap (λ b. one_if (not b)) ne in
      let more = ap (λ m. sum_by (λ t. one_if (not (t == 0))) (range_with_len 0 m)) e ∙ sum_more (λ t. one_if (not (t == 0))) (suc n) in
      let before = later_cycles (suc n) in
      omega (arith, more, before, last)

  size_one : {A : Type 0} (b : Bool) (x : A) → length (when b (x ∷ [])) ≡ one_if b
  size_one true x = refl
  size_one false x = refl

  pub earlier-size : (n : ℕ) → length (earlier_clauses (numbered n (all_needs k (pooled_classes g xs)))) ≡ pooled_count g table k s * (k - 1)
  earlier-size n =
      let ns = numbered n (all_needs k (pooled_classes g xs)) in
      size-implied (was_needed ns) n (all_needs k (pooled_classes g xs))
      ∙ needs_sum (λ x. length (was_needed ns x)) (k - 1) (λ c.
      sum-map (λ x. length (was_needed ns x)) (need_at c) (range_with_len 0 k)
      ∙ sum-same (λ t. length (was_needed ns (need_at c t))) (λ t. one_if (not (t == 0))) (range_with_len 0 k) (λ t. size_one (not (t == 0)) (vars_of (is_need_at c (t - 1)) ns))
      ∙ later_cycles k)

  pub last-size : (ns : List (ℕ × Need)) (vs : List (ℕ × Overwritten)) → length (last_need_clauses g k xs ns vs) ≡ count_by (λ t. is_made_target g t && is_pooled_in g table k s t.class) g.sets
  last-size ns vs =
      size-map (target_needs g k ns vs) (filter (is_pooled_target g xs) g.sets)
      ∙ length-filter (is_pooled_target g xs) g.sets
      ∙ ap (λ t. count_by t g.sets) (same_tests (is_pooled_target g xs) (λ (t : SetClass). is_made_target g t && is_pooled_in g table k s t.class) (λ t. ap (λ b. is_made_target g t && b) (pooled-is t.class)))

  -- ---- what is held

  abbrev from_on : ℕ → ℕ
  from_on t = 1 + (k - (t + 1))

  abbrev by_to : ℕ → To → ℕ
  by_to row to = one_if (is_pool to && row_is g gives_word row)

  use_holds : (row n : ℕ) (u : Use) (tos : List To) → sum_by (λ (l : Launch). by_to l.row l.to * from_on l.cycle) (use_launches table k row n tos u) ≡ length (slots_of table u) * sum_by from_on (range_with_len n (cycles_of k n u)) * sum_by (by_to row) tos
  use_holds row n u tos =
      let total : ℕ = sum_by from_on (range_with_len n (cycles_of k n u)) in
      let each : ℕ = sum_by (by_to row) tos in
      let swap : (x y : ℕ) → x * y ≡ y * x = λ x y. omega arith in
      let assoc : (x y z : ℕ) → x * (y * z) ≡ x * y * z = λ x y z. omega arith in
      use_sum g table k s row n tos u (λ (l : Launch). by_to l.row l.to * from_on l.cycle)
      ∙ sum-same (λ (x : ℕ). sum_by (λ t. sum_by (λ to. by_to row to * from_on t) tos) (range_with_len n (cycles_of k n u))) (λ x. total * each) (slots_of table u)
      (λ x. sum-same (λ t. sum_by (λ to. by_to row to * from_on t) tos) (λ t. from_on t * each) (range_with_len n (cycles_of k n u)) (λ t. sum-times (by_to row) (from_on t) tos ∙ swap each (from_on t))
      ∙ sum-times from_on each (range_with_len n (cycles_of k n u)))
      ∙ sum-const (total * each) (slots_of table u)
      ∙ assoc (length (slots_of table u)) total each

  hold_size : (b : Bool) (c : List Lit) (f : ℕ → List Lit) (a n : ℕ) → length (when b (c ∷ map f (range_with_len a n))) ≡ one_if b * (1 + n)
  hold_size true c f a n = (let m = length-map-range_with_len f a n in let e : length (c ∷ map f (range_with_len a n)) ≡ suc (length (map f (range_with_len a n))) = refl in omega (arith, m, e))
  hold_size false c f a n = (let z : length {A = List Lit} [] ≡ 0 = refl in omega (arith, z))

  pub hold-clauses-size : (ns : List (ℕ × Need)) (hs : List (ℕ × Hold)) → length (hold_clauses g k xs ns hs) ≡ sum_by (λ row. one_if (row_is g gives_word row) * row_holds g table k s row) (row_numbers g)
  hold-clauses-size ns hs =
      let swap : (x y : ℕ) → x * y ≡ y * x = λ x y. omega arith in
      let f : Launch → ℕ = λ l. by_to l.row l.to * from_on l.cycle in
      size-implied (holds_register g k ns hs) 0 ls
      ∙ sum-same (λ l. length (holds_register g k ns hs l)) f ls (λ l. hold_size (takes_pool g l) (vars_of (is_hold_at l.slot l.cycle l.cycle) hs) (holds_while g ns hs l) (l.cycle + 1) (k - (l.cycle + 1)))
      ∙ sum-flat f (λ row. row_launches g table (allocation_in s) k (first_cycle_in s row) row) (row_numbers g)
      ∙ sum-same (λ row. sum_by f (row_launches g table (allocation_in s) k (first_cycle_in s row) row)) (λ row. one_if (row_is g gives_word row) * row_holds g table k s row) (row_numbers g)
      (λ row. by_row g table k s row f (λ n u tos. length (slots_of table u) * sum_by from_on (range_with_len n (cycles_of k n u)) * sum_by (by_to row) tos) (use_holds row)
      ∙ times_instr g table k s row (by_to row) (λ n u. length (slots_of table u) * sum_by from_on (range_with_len n (cycles_of k n u))) (first_cycle_in s row) (instr_at g row)
      ∙ ap (λ n. row_holds g table k s row * n) (pool-alone g (allocation_in s) row)
      ∙ swap (row_holds g table k s row) (one_if (row_is g gives_word row)))

-- ---- in each cycle

module _ (table : Table) (k first : ℕ) where
  pub cycle-size : (t : ℕ) → t < k → length (vars_of (λ (h : Hold). h.cycle == t) (numbered first (all_holds table k))) ≡ length table.slots * (t + 1)
  cycle-size t lt =
      let hs = numbered first (all_holds table k) in
      ap (λ (c : List Lit). length c) (sym (cycle-lits table k first t lt))
      ∙ size-flat (slot_lits t hs) (range_with_len 0 (length table.slots))
      ∙ same-in (λ slot. length (slot_lits t hs slot)) (λ slot. t + 1) (range_with_len 0 (length table.slots)) (λ slot hslot.
      let inside = (range-out 0 (length table.slots) slot hslot).1 in
      let ls : slot < length table.slots = omega arith in
      size-flat (λ start. vars_of (is_hold_at slot start t) hs) (range_with_len 0 (t + 1))
      ∙ same-in (λ start. length (vars_of (is_hold_at slot start t) hs)) (λ start. 1) (range_with_len 0 (t + 1)) (λ start hstart.
      let early = (range-out 0 (t + 1) start hstart).1 in
      let le : start ≤ t = omega arith in
      ap (λ (c : List Lit). length c) (is-hold k slot start t table first ls le lt))
      ∙ sym (size-ones (range_with_len 0 (t + 1))) ∙ length-range_with_len 0 (t + 1))
      ∙ sum-const (t + 1) (range_with_len 0 (length table.slots)) ∙ ap (λ n. n * (t + 1)) (length-range_with_len 0 (length table.slots))
