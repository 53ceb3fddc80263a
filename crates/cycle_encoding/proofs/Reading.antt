-- Values that satisfy the clauses of cycles, slots and values, and keep the pins, show launches that keep the rules.
use Rattle.std.proofs.Common.{ℕ, ◌<◌, ◌≤◌, Bool, List, ◌++◌, length, map, get_or, arith}
use Rattle.std.specs.Prelude.{Contains}
use Rattle.std.specs.List.{All, AllPairs, count_by, range_with_len}
use Rattle.std.proofs.lemmas.List.Elements.{All-map}
use Rattle.cnf_core.specs.Formula.{Satisfies, AreOver, IsLitOf}
use Rattle.cnf_core.specs.Counter.{count_true}
use Rattle.schedule_meaning.specs.Fits.{Collide}
use Rattle.machine_table.specs.declared.tables.Table.{Table}
use Rattle.graph_meaning.specs.WellFormed.{IsLaunchGraph}
use Rattle.graph_meaning.specs.declared.graphs.LaunchGraph.{LaunchGraph}
use Rattle.schedule_meaning.specs.declared.schedules.Allocation.{Allocation}
use Rattle.schedule_meaning.specs.declared.schedules.Launch.{Launch}
use Rattle.cycle_encoding.specs.Shapes.{vars_of, shown, counters}
use Rattle.cycle_encoding.specs.Families.{is_at, seen_clauses, slot_groups}
use Rattle.cycle_encoding.specs.CycleFormula.{Listed, launch_vars, seen_vars}
use Rattle.cycle_encoding.specs.Variables.{all_overwritten, Overwritten}
use Rattle.cycle_encoding.specs.Families.{target_clauses, operand_clauses}
use Rattle.cycle_encoding.specs.CycleFormula.{overwritten_vars, before_overwritten, before_counters, cycle_part}
use Rattle.cycle_encoding.specs.CycleRules.{KeepsCycleRules, ArePinsKept}
use Rattle.cycle_encoding.proofs.Shown.{left, right, all_shown}
use Rattle.cycle_encoding.proofs.ShownTests.{few-out, few-in}
use Rattle.cycle_encoding.proofs.Unshown.{hidden, one-side}
use Rattle.cycle_encoding.proofs.Blocks.{AreExact, vars-over, counters-out, over-more}
use Rattle.cycle_encoding.proofs.MadeLists.{at_range, All-from_flat, All-to_flat, All-unmap}
use Rattle.cycle_encoding.proofs.CycleSays.{seen-out}
use Rattle.cycle_encoding.proofs.Says.{SaysPinnedCycles, targets-out, operands-out}
use Rattle.cycle_encoding.proofs.Lists.{IsListed, over-once}
use Rattle.cycle_encoding.proofs.Sound.{apart, keep_pinned_rules}

module _ (g : LaunchGraph) (table : Table) (k : ℕ) (e : Listed) where
  abbrev xs : List (ℕ × Launch)
  xs = launch_vars e

  -- the literals of each slot and cycle are of launches' variables
  slots-over : AreOver (length e.launches) (slot_groups table k xs)
  slots-over =
      All-to_flat (All (IsLitOf (length e.launches))) (λ s. map (λ t. vars_of (is_at s t) xs) (range_with_len 0 k)) (range_with_len 0 (length table.slots))
      (λ i d lt. All-map (All (IsLitOf (length e.launches))) (λ t. vars_of (is_at (get_or (range_with_len 0 (length table.slots)) i d) t) xs) (range_with_len 0 k)
      (λ j c len. vars-over (is_at (get_or (range_with_len 0 (length table.slots)) i d) (get_or (range_with_len 0 k) j c)) 0 (length e.launches) e.launches (omega arith)))

  pub counted-before : AreOver (before_counters g table k e) (slot_groups table k xs)
  counted-before = over-more (length e.launches) (before_counters g table k e) (slot_groups table k xs) (omega arith) slots-over

  module _ (v : ℕ → Bool) where
    -- what the counters of slots and cycles say of the launches that are shown
    slots-few : All (λ c. count_true v c ≤ 1) (slot_groups table k xs) → (s t : ℕ) → s < length table.slots → t < k → count_by (is_at s t) (shown v xs) ≤ 1
    slots-few h s t ls lt =
        let a = at_range (λ s. All (λ c. count_true v c ≤ 1) (map (λ t. vars_of (is_at s t) xs) (range_with_len 0 k))) (length table.slots) (All-from_flat (λ c. count_true v c ≤ 1) (λ s. map (λ t. vars_of (is_at s t) xs) (range_with_len 0 k)) (range_with_len 0 (length table.slots)) h) s ls in
        few-out v (is_at s t) xs 1 (at_range (λ t. count_true v (vars_of (is_at s t) xs) ≤ 1) k (All-unmap (λ c. count_true v c ≤ 1) (λ t. vars_of (is_at s t) xs) (range_with_len 0 k) a) t lt)

    pub counted-few : ((s t : ℕ) → count_by (is_at s t) (shown v xs) ≤ 1) → All (λ c. count_true v c ≤ 1) (slot_groups table k xs)
    counted-few h =
        All-to_flat (λ c. count_true v c ≤ 1) (λ s. map (λ t. vars_of (is_at s t) xs) (range_with_len 0 k)) (range_with_len 0 (length table.slots))
        (λ i d lt. All-map (λ c. count_true v c ≤ 1) (λ t. vars_of (is_at (get_or (range_with_len 0 (length table.slots)) i d) t) xs) (range_with_len 0 k)
        (λ j c len. few-in v (is_at (get_or (range_with_len 0 (length table.slots)) i d) (get_or (range_with_len 0 k) j c)) xs 1 (h (get_or (range_with_len 0 (length table.slots)) i d) (get_or (range_with_len 0 k) j c))))

  -- no thing is known to be overwritten and not
  clash : (v : ℕ → Bool) (o : Overwritten) → Contains (shown v (overwritten_vars g table k e)) o → Contains (hidden v (overwritten_vars g table k e)) o → ⊥
  clash v = one-side v (before_overwritten e) (all_overwritten g k) (over-once g table k)

  -- satisfied values show launches of which no two collide
  pub pinned_shown_apart : (allocation : Allocation) → AreExact → All (IsListed g table allocation k) e.launches → (v : ℕ → Bool) → Satisfies v (cycle_part g table k e) → AllPairs (λ l m. ¬ Collide l m) (shown v xs)
  pinned_shown_apart allocation exact listed v h =
      let before = target_clauses g k xs (overwritten_vars g table k e) ++ operand_clauses g table xs (seen_vars e) (overwritten_vars g table k e) ++ seen_clauses g table xs (seen_vars e) in
      let c4 = counters (before_counters g table k e) 1 (slot_groups table k xs) in
      let few = slots-few v (counters-out exact 1 (before_counters g table k e) (before_counters g table k e) v (slot_groups table k xs) (omega arith) counted-before (right v before c4 h)) in
      apart g table allocation k (shown v xs) (all_shown v (IsListed g table allocation k) 0 e.launches listed) few

  pub pinned_shown_keep : (allocation : Allocation) → AreExact → IsLaunchGraph g → All (IsListed g table allocation k) e.launches → (v : ℕ → Bool) → Satisfies v (cycle_part g table k e) → ArePinsKept g k (shown v xs) (shown v (overwritten_vars g table k e)) → KeepsCycleRules g table allocation k (shown v xs)
  pinned_shown_keep allocation exact graph listed v h pins =
      let ds = seen_vars e in
      let vs = overwritten_vars g table k e in
      let c1 = target_clauses g k xs vs in
      let c2 = operand_clauses g table xs ds vs in
      let c3 = seen_clauses g table xs ds in
      let c4 = counters (before_counters g table k e) 1 (slot_groups table k xs) in
      let h3 = left v (c1 ++ c2 ++ c3) c4 h in
      let h2 = left v (c1 ++ c2) c3 h3 in
      let says : SaysPinnedCycles g table k (shown v xs) (shown v ds) (hidden v vs) = record {
        targets = targets-out g table k v xs vs (left v c1 c2 h2);
        operands = operands-out g table k v xs vs ds (right v c1 c2 h2);
        seen = seen-out g table k v xs ds (right v (c1 ++ c2) c3 h3);
      } in
      let few = slots-few v (counters-out exact 1 (before_counters g table k e) (before_counters g table k e) v (slot_groups table k xs) (omega arith) counted-before (right v (c1 ++ c2 ++ c3) c4 h)) in
      keep_pinned_rules g table allocation k (shown v xs) (all_shown v (IsListed g table allocation k) 0 e.launches listed) graph.own_pins (shown v vs) (hidden v vs) pins (clash v) (shown v ds) says few
