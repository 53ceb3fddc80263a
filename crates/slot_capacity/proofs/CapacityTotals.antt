-- The counts of capacity, found row by row, are those of its clauses.
use Rattle.std.proofs.Common.{◌≡◌, ℕ, zero, suc, ◌+◌, ◌-◌, ◌*◌, ◌≤◌, min, Bool, true, false, cond, List, [], ◌∷◌, ◌++◌, length, map, refl, sym, ap, ◌∙◌, arith, inl, inr, Option, Some, None, length-append}
use Rattle.std.specs.Prelude.{◌&&◌, Contains, nat_le}
use Rattle.std.specs.Option.{option_map_or}
use Rattle.std.specs.List.{flat_map, range_with_len, sum_by}
use Rattle.std.proofs.lemmas.Bool.{cases_lt, le-leb, lt-leb}
use Rattle.std.proofs.lemmas.List.FromFn.{length-range_with_len}
use Rattle.std.proofs.lemmas.List.Sums.{sum_by-cons}
use Rattle.cnf_core.specs.declared.literal.Lit.{Lit}
use Rattle.cnf_core.specs.Counter.{at_most_clauses, at_most_size, at_most_vars}
use Rattle.cnf_core.specs.Formula.{Formula}
use Rattle.machine_table.specs.declared.tables.Table.{Table}
use Rattle.machine_table.specs.declared.tables.Use.{Use}
use Rattle.graph_meaning.specs.declared.graphs.LaunchGraph.{LaunchGraph}
use Rattle.schedule_meaning.specs.Launches.{class_at, instr_at}
use Rattle.schedule_meaning.specs.declared.schedules.Launch.{Launch}
use Rattle.schedule_meaning.specs.declared.schedules.To.{To}
use Rattle.cycle_encoding.specs.Counts.{cycles_of, one_if, row_destinations, row_use}
use Rattle.cycle_encoding.specs.CycleFormula.{Scope, allocation_in, first_cycle_in, listed_in}
use Rattle.cycle_encoding.specs.Shapes.{numbered, vars_of}
use Rattle.cycle_encoding.specs.Variables.{row_launches, row_numbers, slots_of, use_launches}
use Rattle.cycle_encoding.proofs.Counting.{sum-same}
use Rattle.cycle_encoding.proofs.Launched.{size-map}
use Rattle.cycle_encoding.proofs.Members.{NoTwice, here, later}
use Rattle.cycle_encoding.proofs.PinnedTotals.{by_row, each_to, times_instr, use_sum}
use Rattle.cycle_encoding.proofs.Tests.{one_at}
use Rattle.cycle_encoding.proofs.Totals.{size-flat, size-implied, size-ones, size-vars, sum-const, sum-flat, sum-times}
use Rattle.slot_capacity.specs.CapacityClauses.{Launched, added_capacity, all_launched, before_limits, class_launched, end_clauses, is_launched_at, last_counted, limit_counters, limit_lits, limit_vars, made_clauses, makes_by, makes_counted, stay_clauses, stays_launched, with_capacity}
use Rattle.slot_capacity.specs.CapacityCounts.{capacity_size, capacity_vars, made_count, row_count_up_to, row_made}
use Rattle.slot_capacity.specs.Makers.{makes_own}
use Rattle.slot_capacity.specs.declared.deadlines.Deadline.{Deadline}
use Rattle.slot_capacity.specs.declared.limits.Capacity.{Capacity}
use Rattle.slot_capacity.specs.declared.limits.Limit.{Limit}
use Rattle.slot_capacity.proofs.LaunchedVars.{cycles-size}
use Rattle.slot_capacity.proofs.Things.{classes, one-thing, thing, thing-in, thing-itself, things-once}

-- ---- what launches make, row by row

count_up : (last m n : ℕ) → sum_by (λ t. one_if (nat_le t last)) (range_with_len n m) ≡ min (n + m) (last + 1) - n
count_up last zero n = (let z : sum_by (λ t. one_if (nat_le t last)) [] ≡ 0 = refl in omega arith)
count_up last (suc m) n =
    let a = sum_by-cons (λ t. one_if (nat_le t last)) n (range_with_len (n + 1) m) in
    let ih = count_up last m (n + 1) in
    elim (cases_lt last n) [
      | inl lt ↦ (let z : one_if (nat_le n last) ≡ 0 = ap one_if (lt-leb n last lt) in omega arith)
      | inr le ↦ (let z : one_if (nat_le n last) ≡ 1 = ap one_if (le-leb n last le) in omega arith)
    ]

-- what is found of a use from a first cycle
abbrev by_use : (ℕ → Use → ℕ) → Option ℕ → Option Use → ℕ
by_use D first o = option_map_or (λ u. option_map_or (λ n. D n u) first 0) o 0

use_zero : (D : ℕ → Use → ℕ) (first : Option ℕ) (o : Option Use) → ((n : ℕ) (u : Use) → D n u ≡ 0)
    → by_use D first o ≡ 0
use_zero D first None h = refl
use_zero D None (Some u) h = refl
use_zero D (Some n) (Some u) h = h n u

use_same : (D E : ℕ → Use → ℕ) (first : Option ℕ) (o : Option Use) → ((n : ℕ) (u : Use) → D n u ≡ E n u)
    → by_use D first o ≡ by_use E first o
use_same D E first None h = refl
use_same D E None (Some u) h = refl
use_same D E (Some n) (Some u) h = h n u

module _ (g : LaunchGraph) (table : Table) (k : ℕ) (s : Scope) (counted : List Deadline) where
  abbrev makes : ℕ → ℕ → Bool
  makes row t = makes_by g counted row t

  abbrev cycles_made : ℕ → ℕ → Use → ℕ
  cycles_made row n u = sum_by (λ t. one_if (makes row t)) (range_with_len n (cycles_of k n u))

  abbrev launches_made : ℕ → ℕ → Use → ℕ
  launches_made row n u = length (slots_of table u) * cycles_made row n u

  abbrev is_made_by : Launch → ℕ
  is_made_by l = one_if (makes l.row l.cycle)

  use_made : (row n : ℕ) (u : Use) (tos : List To)
      → sum_by is_made_by (use_launches table k row n tos u) ≡ launches_made row n u * sum_by (λ (to : To). 1) tos
  use_made row n u tos =
      let cycles = range_with_len n (cycles_of k n u) in
      let c = length tos in
      use_sum g table k s row n tos u is_made_by
      ∙ sum-same (λ (x : ℕ). sum_by (λ t. sum_by (λ (to : To). one_if (makes row t)) tos) cycles)
      (λ x. cycles_made row n u * c) (slots_of table u)
      (λ x. sum-same (λ t. sum_by (λ (to : To). one_if (makes row t)) tos) (λ t. one_if (makes row t) * c) cycles
      (λ t. each_to g table k s (makes row t) tos)
      ∙ sum-times (λ t. one_if (makes row t)) c cycles)
      ∙ sum-const (cycles_made row n u * c) (slots_of table u)
      ∙ (let e : (a b c : ℕ) → a * (b * c) ≡ a * b * c = λ a b c. omega arith in
      e (length (slots_of table u)) (cycles_made row n u) c)
      ∙ ap (λ m. launches_made row n u * m) (size-ones tos)

  none_made : (row n m : ℕ) → ((t : ℕ) → makes row t ≡ false)
      → sum_by (λ t. one_if (makes row t)) (range_with_len n m) ≡ 0
  none_made row n m h =
      sum-same (λ t. one_if (makes row t)) (λ t. 0) (range_with_len n m) (λ t. ap one_if (h t))
      ∙ sum-const 0 (range_with_len n m)
      ∙ (let z : length (range_with_len n m) * 0 ≡ 0 = omega arith in z)

  no_launch : (row n : ℕ) (u : Use) → ((t : ℕ) → makes row t ≡ false) → launches_made row n u ≡ 0
  no_launch row n u h =
      ap (λ m. length (slots_of table u) * m) (none_made row n (cycles_of k n u) h)
      ∙ (let z : (a : ℕ) → a * 0 ≡ 0 = λ a. omega arith in z (length (slots_of table u)))

  -- up to the last cycle of the class that the row makes
  row_by : (row : ℕ) (own : Bool) (o : Option ℕ) → makes_own g row ≡ own → last_counted counted (class_at g row) ≡ o
      → by_use (launches_made row) (first_cycle_in s row) (row_use g table row)
      ≡ cond own (option_map_or (λ last. row_count_up_to g table k s last row) o 0) 0
  row_by row false o e f =
      use_zero (launches_made row) (first_cycle_in s row) (row_use g table row) (λ n u.
      no_launch row n u (λ t.
      ap (λ b. b && option_map_or (λ last. nat_le t last) (last_counted counted (class_at g row)) false) e))
  row_by row true None e f =
      use_zero (launches_made row) (first_cycle_in s row) (row_use g table row) (λ n u.
      no_launch row n u (λ t.
      ap (λ b. b && option_map_or (λ last. nat_le t last) (last_counted counted (class_at g row)) false) e
      ∙ ap (λ o. option_map_or (λ last. nat_le t last) o false) f))
  row_by row true (Some last) e f =
      use_same (launches_made row) (λ n u. length (slots_of table u) * (min (k + 1 - u.latency) (last + 1) - n))
      (first_cycle_in s row) (row_use g table row) (λ n u.
      ap (λ m. length (slots_of table u) * m)
      (sum-same (λ t. one_if (makes row t)) (λ t. one_if (nat_le t last)) (range_with_len n (cycles_of k n u)) (λ t.
      ap one_if
      (ap (λ b. b && option_map_or (λ last. nat_le t last) (last_counted counted (class_at g row)) false) e
      ∙ ap (λ o. option_map_or (λ last. nat_le t last) o false) f))
      ∙ count_up last (cycles_of k n u) n
      ∙ (let z : min (n + (k + 1 - u.latency - n)) (last + 1) - n
      ≡ min (k + 1 - u.latency) (last + 1) - n = omega arith in
      z)))

  row_is_made : (row : ℕ)
      → sum_by is_made_by (row_launches g table (allocation_in s) k (first_cycle_in s row) row)
      ≡ row_made g table k s counted row * length (row_destinations g (allocation_in s) row)
  row_is_made row =
      by_row g table k s row is_made_by (λ n u tos. launches_made row n u * sum_by (λ (to : To). 1) tos)
      (λ n u tos. use_made row n u tos)
      ∙ times_instr g table k s row (λ to. 1) (λ n u. launches_made row n u) (first_cycle_in s row) (instr_at g row)
      ∙ ap (λ m. m * sum_by (λ (to : To). 1) (row_destinations g (allocation_in s) row))
      (row_by row (makes_own g row) (last_counted counted (class_at g row)) refl refl)
      ∙ ap (λ m. row_made g table k s counted row * m) (sym (size-ones (row_destinations g (allocation_in s) row)))

  one_clause : (b : Bool) (c : List Lit) → length (cond b (c ∷ []) []) ≡ one_if b
  one_clause true c = refl
  one_clause false c = refl

  made_size : (ps : List (ℕ × Launched))
      → length (made_clauses g counted (numbered 0 (listed_in g table k s).launches) ps)
      ≡ made_count g table k s counted
  made_size ps =
      let launches = (listed_in g table k s).launches in
      size-implied (makes_counted g counted ps) 0 launches
      ∙ sum-same (λ (l : Launch). length (makes_counted g counted ps l)) is_made_by launches
      (λ l. one_clause (makes l.row l.cycle) (vars_of (is_launched_at (class_at g l.row) l.cycle) ps))
      ∙ sum-flat is_made_by (λ row. row_launches g table (allocation_in s) k (first_cycle_in s row) row) (row_numbers g)
      ∙ sum-same (λ row. sum_by is_made_by (row_launches g table (allocation_in s) k (first_cycle_in s row) row))
      (λ row. row_made g table k s counted row * length (row_destinations g (allocation_in s) row)) (row_numbers g)
      row_is_made

-- ---- the other families

things_size : (counted : List Deadline) → length (all_launched counted) ≡ sum_by (λ x. x.last + 1 - x.first) counted
things_size counted =
    size-flat class_launched counted
    ∙ sum-same (λ (x : Deadline). length (class_launched x)) (λ x. x.last + 1 - x.first) counted cycles-size

stay_size : (counted : List Deadline) (ps : List (ℕ × Launched))
    → length (stay_clauses counted ps) ≡ sum_by (λ x. x.last - x.first) counted
stay_size counted ps =
    size-flat (λ x. map (stays_launched ps x) (range_with_len (x.first + 1) (x.last - x.first))) counted
    ∙ sum-same (λ (x : Deadline). length (map (stays_launched ps x) (range_with_len (x.first + 1) (x.last - x.first))))
    (λ x. x.last - x.first) counted (λ x.
    size-map (stays_launched ps x) (range_with_len (x.first + 1) (x.last - x.first))
    ∙ length-range_with_len (x.first + 1) (x.last - x.first))

-- what is counted of a capacity: each class that a limit counts has the variable that the limit wants
pub record HasVars (c : Capacity) : Type 0 where
  pub once : NoTwice (classes c.counted)
  pub there : (m : Limit) → Contains c.limits m → (x : Deadline) → Contains m.due x
      → Contains c.counted x × (x.first ≤ min m.cycle x.last)

module _ (c : Capacity) (has : HasVars c) (n : ℕ) where
  abbrev ps : List (ℕ × Launched)
  ps = numbered n (all_launched c.counted)

  lits_of : (cycle : ℕ) (due : List Deadline)
      → ((x : Deadline) → Contains due x → Contains c.counted x × (x.first ≤ min cycle x.last))
      → length (flat_map (λ x. vars_of (is_launched_at x.class (min cycle x.last)) ps) due) ≡ length due
  lits_of cycle [] there = refl
  lits_of cycle (x ∷ due) there =
      let t = min cycle x.last in
      let h = there x (here x due) in
      let low = h.1 in
      let known = thing-in c.counted x h.0 t low (omega arith) in
      let few = one-thing x.class t (all_launched c.counted) (things-once c.counted has.once) in
      let lt = known.1 in
      let some =
      one_at (is_launched_at x.class t) (all_launched c.counted) known.0 (thing x.class t) lt
      (ap (is_launched_at x.class t) known.2 ∙ thing-itself x.class t) in
      let size = size-vars (is_launched_at x.class t) n (all_launched c.counted) in
      let ih = lits_of cycle due (λ y d. there y (later x y due d)) in
      let a =
      length-append (vars_of (is_launched_at x.class t) ps)
      (flat_map (λ x. vars_of (is_launched_at x.class (min cycle x.last)) ps) due) in
      let s : length (x ∷ due) ≡ suc (length due) = refl in
      omega arith

  lits_size : (m : Limit) → Contains c.limits m → length (limit_lits ps m) ≡ length m.due
  lits_size m h = lits_of m.cycle m.due (has.there m h)

  limits_vars : (ms : List Limit) → ((m : Limit) → Contains ms m → Contains c.limits m)
      → limit_vars ps ms ≡ sum_by (λ m. at_most_vars m.most (length m.due)) ms
  limits_vars [] sub = refl
  limits_vars (m ∷ ms) sub =
      let a = sum_by-cons (λ (m : Limit). at_most_vars m.most (length m.due)) m ms in
      let b = ap (at_most_vars m.most) (lits_size m (sub m (here m ms))) in
      let ih = limits_vars ms (λ o h. sub o (later m o ms h)) in
      omega arith

  module _ (size : (old p : ℕ) (lits : List Lit) → length (at_most_clauses old p lits)
      ≡ at_most_size p (length lits)) where
    limits_clauses : (old : ℕ) (ms : List Limit) → ((m : Limit) → Contains ms m → Contains c.limits m)
        → length (limit_counters old ps ms) ≡ sum_by (λ m. at_most_size m.most (length m.due)) ms
    limits_clauses old [] sub = refl
    limits_clauses old (m ∷ ms) sub =
        let lits = limit_lits ps m in
        let next = old + at_most_vars m.most (length lits) in
        let a = sum_by-cons (λ (m : Limit). at_most_size m.most (length m.due)) m ms in
        let b = size old m.most lits in
        let l = ap (at_most_size m.most) (lits_size m (sub m (here m ms))) in
        let d = length-append (at_most_clauses old m.most lits) (limit_counters next ps ms) in
        let ih = limits_clauses next ms (λ o h. sub o (later m o ms h)) in
        omega arith

module _ (g : LaunchGraph) (table : Table) (k : ℕ) (s : Scope) (c : Capacity) (has : HasVars c) (f : Formula) where
  abbrev xs : List (ℕ × Launch)
  xs = numbered 0 (listed_in g table k s).launches

  pub vars-counted : (with_capacity g c xs f).vars ≡ f.vars + capacity_vars g table k s c
  vars-counted =
      let a = things_size c.counted in
      let b = limits_vars c has f.vars c.limits (λ m h. h) in
      omega arith

  pub size-counted : ((old p : ℕ) (lits : List Lit) → length (at_most_clauses old p lits)
      ≡ at_most_size p (length lits))
      → length (added_capacity g c xs f) ≡ capacity_size g table k s c
  size-counted size =
      let ps = numbered f.vars (all_launched c.counted) in
      let old = before_limits g c xs f in
      let m1 = made_clauses g c.counted xs ps in
      let m2 = stay_clauses c.counted ps in
      let m3 = end_clauses c.counted ps in
      let m4 = limit_counters old ps c.limits in
      let a1 = made_size g table k s c.counted ps in
      let a2 = stay_size c.counted ps in
      let a3 = size-map (λ (x : Deadline). vars_of (is_launched_at x.class x.last) ps) c.counted in
      let a4 = limits_clauses c has f.vars size old c.limits (λ m h. h) in
      let d1 = length-append (m1 ++ m2 ++ m3) m4 in
      let d2 = length-append (m1 ++ m2) m3 in
      let d3 = length-append m1 m2 in
      omega arith
