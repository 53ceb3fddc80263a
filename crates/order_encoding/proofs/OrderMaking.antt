-- Each schedule that fits and has variables is what some values show that satisfy the whole formula with pins.
use Rattle.std.proofs.Common.{◌≡◌, ℕ, ◌+◌, ◌<◌, ◌≤◌, Bool, true, false, List, [], ◌∷◌, ◌++◌, length, get_or, refl, sym, subst, arith, inl, inr}
use Rattle.std.specs.Prelude.{◌==◌, is_some, Contains, IsTrue, ◌↔◌}
use Rattle.std.specs.List.{All, AllPairs, count_by, range_with_len}
use Rattle.std.proofs.lemmas.List.Elements.{All-nil, All-cons, All-map, All-append, All-contains, Contains-get_or}
use Rattle.std.proofs.lemmas.List.FromFn.{length-range_with_len}
use Rattle.cnf_core.specs.declared.literal.Lit.{Lit}
use Rattle.cnf_core.specs.Formula.{Satisfies}
use Rattle.cnf_core.specs.Counter.{count_true, Extends, HasExtension}
use Rattle.graph_meaning.specs.WellFormed.{IsLaunchGraph}
use Rattle.schedule_meaning.specs.Launches.{launches, is_branch, is_load, is_store, goes_to, memory_before, overwrites}
use Rattle.schedule_meaning.proofs.Pins.{load_over}
use Rattle.schedule_meaning.specs.Fits.{CanGo, Collide, IsLeft, Fits, MayLoadOver}
use Rattle.machine_table.specs.declared.tables.Table.{Table}
use Rattle.graph_meaning.specs.declared.graphs.LaunchGraph.{LaunchGraph}
use Rattle.schedule_meaning.specs.declared.schedules.Allocation.{Allocation}
use Rattle.schedule_meaning.specs.declared.schedules.Allocation.TheVariants.{Block, Live}
use Rattle.schedule_meaning.specs.declared.schedules.Launch.{Launch}
use Rattle.cycle_encoding.specs.Shapes.{vars_of, shown, when, counters}
use Rattle.cycle_encoding.specs.CycleFormula.{Listed, launch_vars}
use Rattle.cycle_encoding.specs.CycleRules.{HasPlace}
use Rattle.cycle_encoding.specs.Variables.{all_overwritten, Overwritten, pinned_sets}
use Rattle.cycle_encoding.specs.CycleFormula.{overwritten_vars, after_counters, cycle_part, cycle_formula}
use Rattle.cycle_encoding.specs.CycleRules.{WasOverwritten, AreShown}
use Rattle.order_encoding.specs.OrderVariables.{Held, all_held}
use Rattle.order_encoding.specs.OrderFamilies.{stores_at, entry_clauses, memory_clauses, kept_clauses, held_groups, store_groups, last_memory_clauses, branch_clauses, branch_groups, wait_clauses, come_clauses}
use Rattle.order_encoding.specs.PinFamilies.{overwritten_clauses, pin_groups, pin_clauses, late_clauses, load_clauses}
use Rattle.order_encoding.specs.WholeFormula.{pool_formula, pins_formula, whole_formula}
use Rattle.order_encoding.proofs.Parts.{held_vars, before_stores, store_vars, before_held, memory_groups, after_memory, earliest_cycles, come_vars, before_branch, after_guard, after_pool, after_pins, memory_part, guard_part, pool_part, pool-clauses, pool-up, pins_part, capacity_part}
use Rattle.cycle_encoding.proofs.Shown.{both}
use Rattle.cycle_encoding.proofs.ShownTests.{few-in}
use Rattle.cycle_encoding.proofs.Members.{All-from_members, filter-out, range-in}
use Rattle.cycle_encoding.proofs.Tests.{some_of, some_in}
use Rattle.cycle_encoding.proofs.Unshown.{hidden, shown-within}
use Rattle.std.proofs.lemmas.Bool.{and_parts, eqb-true, eq-eqb}
use Rattle.cycle_encoding.proofs.Blocks.{AreExact, chosen, chosen-extends, chosen-shown, shown-extends, extends-trans, counters-in, counters-over, stays}
use Rattle.order_encoding.proofs.Says.{SaysMemory, SaysGuard, entry-in, memory-in, kept-in, last-in, branch-in, wait-in, come-in}
use Rattle.order_encoding.proofs.OrderSays.{SaysPins, SaysLate, over-in, pins-in, late-in}
use Rattle.order_encoding.proofs.LiveListing.{either-side}
use Rattle.order_encoding.proofs.LiveSays.{IsAlone, alone-in}
use Rattle.order_encoding.proofs.PoolMaking.{IsOver, PoolMade, pool-made, shown-at}
use Rattle.order_encoding.proofs.OrderReading.{pinned-memory-over, pinned-branch-over, pins-over}
use Rattle.order_encoding.proofs.Complete.{SameLaunches, KeepsOrder, shown-same, held_now, stored_now, come_now, held, stored, come, stores-few, memories, held-few, branch-few, guards}
use Rattle.order_encoding.proofs.OrderComplete.{order_of, late, pins-few, pins_say}

when-all : (b : Bool) (P : List Lit → Type 0) (c : List Lit) → (b ≡ true → P c) → All P (when b (c ∷ []))
when-all true P c h = All-cons P c [] (h refl) (All-nil P)
when-all false P c h = All-nil P

module _ (g : LaunchGraph) (table : Table) (k : ℕ) (e : Listed) (v : ℕ → Bool) where
  abbrev xs : List (ℕ × Launch)
  xs = launch_vars e

  memory-count : ((t : ℕ) → count_by (λ (m : Held). m.cycle == t) (shown v (held_vars g table k e)) ≤ 1) → ((t : ℕ) → count_by (stores_at g t) (shown v xs) ≤ 1) → All (λ c. count_true v c ≤ 1) (memory_groups g table k e)
  memory-count p q =
      All-append (λ c. count_true v c ≤ 1) (held_groups k (held_vars g table k e)) (store_groups g k xs)
      (All-map (λ c. count_true v c ≤ 1) (λ t. vars_of (λ (m : Held). m.cycle == t) (held_vars g table k e)) (range_with_len 0 (k + 1))
      (λ j c len. few-in v (λ (m : Held). m.cycle == (get_or (range_with_len 0 (k + 1)) j c)) (held_vars g table k e) 1 (p (get_or (range_with_len 0 (k + 1)) j c))))
      (All-map (λ c. count_true v c ≤ 1) (λ t. vars_of (stores_at g t) xs) (range_with_len 0 k)
      (λ j c len. few-in v (stores_at g (get_or (range_with_len 0 k) j c)) xs 1 (q (get_or (range_with_len 0 k) j c))))

  branch-count : (is_some g.guard ≡ true → count_by (launches g is_branch) (shown v xs) ≤ 1) → All (λ c. count_true v c ≤ 1) (branch_groups g xs)
  branch-count h = when-all (is_some g.guard) (λ c. count_true v c ≤ 1) (vars_of (launches g is_branch) xs) (λ y. few-in v (launches g is_branch) xs 1 (h y))

  pins-count : ((j : ℕ) → Contains (pinned_sets g) j → count_by (goes_to j) (shown v xs) ≤ 1) → All (λ c. count_true v c ≤ 1) (pin_groups g xs)
  pins-count h =
      All-map (λ c. count_true v c ≤ 1) (λ j. vars_of (goes_to j) xs) (pinned_sets g)
      (λ i d lt. few-in v (goes_to (get_or (pinned_sets g) i d)) xs 1 (h (get_or (pinned_sets g) i d) (Contains-get_or (pinned_sets g) i d lt)))

-- the numbers of variables rise from part to part
itself : (n : ℕ) → n ≤ n
itself n = omega arith

through : (a b c : ℕ) → a ≤ b → b ≤ c → a ≤ c
through a b c p q = omega arith

module _ (g : LaunchGraph) (table : Table) (k : ℕ) (e : Listed) where
  launches-last : 0 + length e.launches ≤ after_counters g table k e
  launches-last = omega arith

  launches-held : 0 + length e.launches ≤ before_held g table k e
  launches-held = omega arith

  range-held : before_stores g table k e + length (range_with_len 0 k) ≤ before_held g table k e
  range-held = omega (arith, length-range_with_len 0 k)

  up4 : after_counters g table k e ≤ before_stores g table k e
  up4 = omega arith

  up5 : before_stores g table k e ≤ before_held g table k e
  up5 = omega arith

  up7 : before_held g table k e ≤ after_memory g table k e
  up7 = omega arith

  up8 : after_memory g table k e ≤ before_branch g table k e
  up8 = omega arith

  up9 : before_branch g table k e ≤ after_guard g table k e
  up9 = omega arith

  up11 : after_guard g table k e ≤ after_pool g table k e
  up11 = pool-up g table k e

  up12 : after_pool g table k e ≤ after_pins g table k e
  up12 = omega arith

  launches-branch : 0 + length e.launches ≤ before_branch g table k e
  launches-branch = omega arith

-- values that go on from some for launches and what is seen, the kinds that they show, and the counters that they satisfy
record Made (g : LaunchGraph) (table : Table) (k : ℕ) (ls : List Launch) (e : Listed) (v values : ℕ → Bool) : Type 0 where
  extends : Extends (after_counters g table k e) v values
  launched_is : shown values (launch_vars e) ≡ shown v (launch_vars e)
  held_is : shown values (held_vars g table k e) ≡ held g table k ls
  stored_is : shown values (store_vars g table k e) ≡ stored g table k ls
  come_is : shown values (come_vars g table k e) ≡ come g table k ls
  memory : Satisfies values (counters (before_held g table k e) 1 (memory_groups g table k e))
  branch : Satisfies values (counters (before_branch g table k e) 1 (branch_groups g (launch_vars e)))
  pool : Satisfies values (pool_part g table k e)
  pins_few : Satisfies values (counters (after_pool g table k e) 1 (pin_groups g (launch_vars e)))

-- values such that all that go on from them, for variables behind those of pins, are such
record Going (g : LaunchGraph) (table : Table) (k : ℕ) (ls : List Launch) (e : Listed) (v : ℕ → Bool) : Type 0 where
  values : ℕ → Bool
  goes : (u : ℕ → Bool) → Extends (after_pins g table k e) values u → Made g table k ls e v u

module _ (exact : AreExact) (g : LaunchGraph) (table : Table) (k : ℕ) (e : Listed) (is_graph : IsLaunchGraph g) (ls : List Launch) (fit : Fits g table e.allocation k ls)
    (left : (t : ℕ) → IsLeft g ls t (memory_before g ls t)) (once : (t a b : ℕ) → IsLeft g ls t a → IsLeft g ls t b → a ≡ b)
    (v3 : ℕ → Bool) (same : SameLaunches table k ls (shown v3 (launch_vars e))) (over : IsOver g table k e ls (after_counters g table k e) v3) where
  order : KeepsOrder g ls
  order = order_of g table e.allocation k ls fit

  abbrev S : List Launch
  S = shown v3 (launch_vars e)

  -- one block, or one row of counters, after another
  made : Going g table k ls e v3
  made =
      let n3 = after_counters g table k e in
      let n4 = before_stores g table k e in
      let n5 = before_held g table k e in
      let n7 = after_memory g table k e in
      let n8 = before_branch g table k e in
      let n9 = after_guard g table k e in
      let v4 : ℕ → Bool = chosen (held_now g table k ls) n3 (all_held g k) v3 in
      let s4 : shown v4 (held_vars g table k e) ≡ held g table k ls = chosen-shown (held_now g table k ls) n3 (all_held g k) v3 in
      let x34 : Extends n3 v3 v4 = chosen-extends (held_now g table k ls) n3 (all_held g k) v3 in
      let v5 : ℕ → Bool = chosen (stored_now g table k ls) n4 (range_with_len 0 k) v4 in
      let s5 : shown v5 (store_vars g table k e) ≡ stored g table k ls = chosen-shown (stored_now g table k ls) n4 (range_with_len 0 k) v4 in
      let x45 : Extends n4 v4 v5 = chosen-extends (stored_now g table k ls) n4 (range_with_len 0 k) v4 in
      let x35 : Extends n3 v3 v5 = extends-trans n3 n4 v3 v4 v5 (up4 g table k e) x34 x45 in
      let a5 : shown v5 (launch_vars e) ≡ S = shown-extends v3 v5 0 n3 e.launches (launches-last g table k e) x35 in
      let m5 : shown v5 (held_vars g table k e) ≡ held g table k ls = shown-at v4 v5 n3 n4 (all_held g k) (held g table k ls) s4 (itself n4) x45 in
      let c8 = memory-count g table k e v5 (λ t. subst (λ (M : List Held). count_by (λ (m : Held). m.cycle == t) M ≤ 1) (sym m5) (held-few g table k ls S same is_graph order left once t)) (λ t. subst (λ S. count_by (stores_at g t) S ≤ 1) (sym a5) (stores-few g table k ls S same is_graph order t)) in
      let h6 : HasExtension n5 v5 (counters n5 1 (memory_groups g table k e)) = counters-in exact 1 n5 n5 v5 (memory_groups g table k e) (itself n5) (pinned-memory-over g table k e) c8 in
      let v6 : ℕ → Bool = h6.0 in
      let x56 : Extends n5 v5 v6 = h6.1 in
      let v7 : ℕ → Bool = chosen (come_now g table k ls) n7 (earliest_cycles g table k e) v6 in
      let s7 : shown v7 (come_vars g table k e) ≡ come g table k ls = chosen-shown (come_now g table k ls) n7 (earliest_cycles g table k e) v6 in
      let x67 : Extends n7 v6 v7 = chosen-extends (come_now g table k ls) n7 (earliest_cycles g table k e) v6 in
      let x57 : Extends n5 v5 v7 = extends-trans n5 n7 v5 v6 v7 (up7 g table k e) x56 x67 in
      let a7 : shown v7 (launch_vars e) ≡ S = shown-at v5 v7 0 n5 e.launches S a5 (launches-held g table k e) x57 in
      let c12 = branch-count g table k e v7 (λ y. subst (λ S. count_by (launches g is_branch) S ≤ 1) (sym a7) (branch-few g table k ls S same is_graph order y)) in
      let h8 : HasExtension n8 v7 (counters n8 1 (branch_groups g (launch_vars e))) = counters-in exact 1 n8 n8 v7 (branch_groups g (launch_vars e)) (itself n8) (pinned-branch-over g table k e) c12 in
      let v8 : ℕ → Bool = h8.0 in
      let x78 : Extends n8 v7 v8 = h8.1 in
      let n11 = after_pool g table k e in
      let x58 : Extends n5 v5 v8 = extends-trans n5 n8 v5 v7 v8 (through n5 n7 n8 (up7 g table k e) (up8 g table k e)) x57 x78 in
      let x38 : Extends n3 v3 v8 = extends-trans n3 n5 v3 v5 v8 (through n3 n4 n5 (up4 g table k e) (up5 g table k e)) x35 x58 in
      let n39 : n3 ≤ n9 = through n3 n7 n9 (through n3 n5 n7 (through n3 n4 n5 (up4 g table k e) (up5 g table k e)) (up7 g table k e)) (through n7 n8 n9 (up8 g table k e) (up9 g table k e)) in
      let a8 : shown v8 (launch_vars e) ≡ S = shown-at v7 v8 0 n8 e.launches S a7 (launches-branch g table k e) x78 in
      let pools : PoolMade g table k e e.allocation v8 = pool-made exact g table k e is_graph ls S same v8 a8 (λ u xu. over u (extends-trans n3 n9 v3 v8 u n39 x38 xu)) (λ l h. shown-within v3 0 e.launches l h) e.allocation fit in
      let v10 : ℕ → Bool = pools.values in
      let x810 : Extends n9 v8 v10 = pools.extends in
      let x710 : Extends n8 v7 v10 = extends-trans n8 n9 v7 v8 v10 (up9 g table k e) x78 x810 in
      let a10 : shown v10 (launch_vars e) ≡ S = shown-at v7 v10 0 n8 e.launches S a7 (launches-branch g table k e) x710 in
      let c18 = pins-count g table k e v10 (λ j hj. subst (λ S. count_by (goes_to j) S ≤ 1) (sym a10) (pins-few g table k ls S same is_graph e.allocation fit j hj)) in
      let h11 : HasExtension n11 v10 (counters n11 1 (pin_groups g (launch_vars e))) = counters-in exact 1 n11 n11 v10 (pin_groups g (launch_vars e)) (itself n11) (pins-over g table k e) c18 in
      let w : ℕ → Bool = h11.0 in
      let x10w : Extends n11 v10 w = h11.1 in
      let n12 = after_pins g table k e in
      record {
        values = w;
        goes = λ u xwu.
            let x10u : Extends n11 v10 u = extends-trans n11 n12 v10 w u (up12 g table k e) x10w xwu in
            let x8u : Extends n9 v8 u = extends-trans n9 n11 v8 v10 u (up11 g table k e) x810 x10u in
            let x7u : Extends n8 v7 u = extends-trans n8 n9 v7 v8 u (up9 g table k e) x78 x8u in
            let x6u : Extends n7 v6 u = extends-trans n7 n8 v6 v7 u (up8 g table k e) x67 x7u in
            let x5u : Extends n5 v5 u = extends-trans n5 n7 v5 v6 u (up7 g table k e) x56 x6u in
            let x4u : Extends n4 v4 u = extends-trans n4 n5 v4 v5 u (up5 g table k e) x45 x5u in
            let x3u : Extends n3 v3 u = extends-trans n3 n4 v3 v4 u (up4 g table k e) x34 x4u in
            record {
              extends = x3u;
              launched_is = shown-extends v3 u 0 n3 e.launches (launches-last g table k e) x3u;
              held_is = shown-at v4 u n3 n4 (all_held g k) (held g table k ls) s4 (itself n4) x4u;
              stored_is = shown-at v5 u n4 n5 (range_with_len 0 k) (stored g table k ls) s5 (range-held g table k e) x5u;
              come_is = shown-at v7 u n7 n8 (earliest_cycles g table k e) (come g table k ls) s7 (itself n8) x7u;
              memory = stays n7 v6 u (counters n5 1 (memory_groups g table k e)) x6u (counters-over exact 1 n5 n5 (memory_groups g table k e) (itself n5) (pinned-memory-over g table k e)) h6.2;
              branch = stays n9 v8 u (counters n8 1 (branch_groups g (launch_vars e))) x8u (counters-over exact 1 n8 n8 (branch_groups g (launch_vars e)) (itself n8) (pinned-branch-over g table k e)) h8.2;
              pool = pools.holds u x10u;
              pins_few = stays n12 w u (counters n11 1 (pin_groups g (launch_vars e))) xwu (counters-over exact 1 n11 n11 (pin_groups g (launch_vars e)) (itself n11) (pins-over g table k e)) h11.2;
            };
      }

  -- loads that overwrite inputs come in cycles without a store
  lone : (a : Allocation) (l : Launch) → MayLoadOver g a ls l → (m : Launch) → Contains ls m → IsTrue (launches g is_store m) → m.cycle ≡ l.cycle → ⊥
  lone Block l h m hm store e = h
  lone Live l h m hm store e = All-contains (λ m. IsTrue (launches g is_store m) → ¬ (m.cycle ≡ l.cycle)) ls m h hm store e

  alone_says : (v : ℕ → Bool) → shown v (store_vars g table k e) ≡ stored g table k ls → All (IsAlone g k (launch_vars e) (hidden v (store_vars g table k e))) S
  alone_says v is =
      All-from_members (IsAlone g k (launch_vars e) (hidden v (store_vars g table k e))) S (λ l hl t.
      let p = and_parts (launches g is_load l) (overwrites g l) t in
      let from = (same.members l).0 hl in
      let early : l.cycle < k = (All-contains (HasPlace table k) S l same.places hl).1 in
      let may = load_over g e.allocation ls l (All-contains (CanGo g e.allocation ls) ls l fit.destinations from) p.0 p.1 in
      elim (either-side v (before_stores g table k e) (range_with_len 0 k) l.cycle (range-in 0 k l.cycle (omega arith) (omega arith))) [
        | inl here ↦
            (let there = filter-out (stored_now g table k ls) (range_with_len 0 k) l.cycle (subst (λ W. Contains W l.cycle) is here) in
            let m = some_of (stores_at g l.cycle) ls there.1 in
            let q = and_parts (launches g is_store m.0) ((m.0).cycle == l.cycle) m.2 in
            absurd (lone e.allocation l may m.0 m.1 q.0 (eqb-true (m.0).cycle l.cycle q.1)))
        | inr away ↦ some_in (λ t. t == l.cycle) (hidden v (store_vars g table k e)) l.cycle away (eq-eqb l.cycle l.cycle refl)
      ])

  -- all families hold then
  satisfied : (v : ℕ → Bool) → Made g table k ls e v3 v → Satisfies v (cycle_formula g table k e).clauses → ((o : Overwritten) → Contains (shown v (overwritten_vars g table k e)) o ↔ (Contains (all_overwritten g k) o × WasOverwritten ls o)) → Satisfies v (pins_formula g table k e).clauses
  satisfied v m p1 over =
      let xs = launch_vars e in
      let ms = held_vars g table k e in
      let ws = store_vars g table k e in
      let bs = come_vars g table k e in
      let says2 : SaysMemory g table k (shown v xs) (shown v ms) (shown v ws) = subst (λ S. SaysMemory g table k S (shown v ms) (shown v ws)) (sym m.launched_is) (subst (λ M. SaysMemory g table k S M (shown v ws)) (sym m.held_is) (subst (λ W. SaysMemory g table k S (held g table k ls) W) (sym m.stored_is) (memories g table k ls S same is_graph order left once))) in
      let says3 : SaysGuard g table k (shown v xs) (shown v bs) = subst (λ S. SaysGuard g table k S (shown v bs)) (sym m.launched_is) (subst (λ B. SaysGuard g table k S B) (sym m.come_is) (guards g table k ls S same is_graph order)) in
      let vs = overwritten_vars g table k e in
      let says5 : SaysPins g table k (shown v xs) (shown v vs) = subst (λ S. SaysPins g table k S (shown v vs)) (sym m.launched_is) (pins_say g table k ls S same is_graph e.allocation fit (shown v vs) over) in
      let says6 : SaysLate g table k (shown v xs) (shown v bs) = subst (λ S. SaysLate g table k S (shown v bs)) (sym m.launched_is) (subst (λ B. SaysLate g table k S B) (sym m.come_is) (late g table k ls S same is_graph e.allocation fit)) in
      let says7 : All (IsAlone g k xs (hidden v ws)) (shown v xs) = subst (λ S. All (IsAlone g k xs (hidden v ws)) S) (sym m.launched_is) (alone_says v m.stored_is) in
      let c17 = overwritten_clauses g k xs vs in
      let c18 = counters (after_pool g table k e) 1 (pin_groups g xs) in
      let c19 = pin_clauses g xs in
      let c20 = late_clauses g xs bs in
      let c5 = entry_clauses g ms in
      let c6 = memory_clauses g xs ms ws in
      let c7 = kept_clauses g k xs ms ws in
      let c8 = counters (before_held g table k e) 1 (memory_groups g table k e) in
      let c10 = last_memory_clauses g k ms in
      let c11 = branch_clauses g xs in
      let c12 = counters (before_branch g table k e) 1 (branch_groups g xs) in
      let c13 = wait_clauses g xs bs in
      let c14 = come_clauses g xs bs in
      let c22 = load_clauses g xs ws in
      let p2 : Satisfies v (memory_part g table k e) =
      both v (c5 ++ c6 ++ c7 ++ c8) c10 (both v (c5 ++ c6 ++ c7) c8 (both v (c5 ++ c6) c7 (both v c5 c6 (entry-in g table k v xs ms ws says2.entry says2.others) (memory-in g table k v xs ms ws says2.uses says2.leaves)) (kept-in g table k v xs ms ws says2.stored says2.stays)) m.memory) (last-in g table k v xs ms ws says2.last) in
      let p3 : Satisfies v (guard_part g table k e) = both v (c11 ++ c12 ++ c13) c14 (both v (c11 ++ c12) c13 (both v c11 c12 (branch-in g table k v xs bs says3.branch) m.branch) (wait-in g table k v xs bs says3.wait)) (come-in g table k v xs bs says3.come) in
      let p4 : Satisfies v (pool_part g table k e) = m.pool in
      let p5 : Satisfies v (pins_part g table k e) =
      both v (c17 ++ c18 ++ c19 ++ c20) c22 (both v (c17 ++ c18 ++ c19) c20 (both v (c17 ++ c18) c19 (both v c17 c18 (over-in g table k v xs vs says5.went says5.on) m.pins_few) (pins-in g table k v xs says5.some)) (late-in g table k v xs bs says6)) (alone-in g k xs v ws says7) in
      both v (pool_formula g table k e).clauses (pins_part g table k e)
      (subst (Satisfies v) (sym (pool-clauses g table k e)) (both v (cycle_part g table k e ++ memory_part g table k e ++ guard_part g table k e) (pool_part g table k e) (both v (cycle_part g table k e ++ memory_part g table k e) (guard_part g table k e) (both v (cycle_part g table k e) (memory_part g table k e) p1 p2) p3) p4)) p5

-- the law on the clauses of cycles, slots and values says of a list that no two launches collide which are shown
abbrev pub SayApart : LaunchGraph → Table → ℕ → Listed → Type 0
SayApart g table k e =
    (v : ℕ → Bool) → Satisfies v (cycle_formula g table k e).clauses
    → AllPairs (λ l m. ¬ Collide l m) (shown v (launch_vars e))

-- what values show that satisfy the formula with pins fits, and can be launched in the slots
abbrev pub SayPinsFit : LaunchGraph → Table → ℕ → Listed → Type 0
SayPinsFit g table k e =
    (v : ℕ → Bool) → Satisfies v (pins_formula g table k e).clauses → Fits g table e.allocation k (shown v (launch_vars e))

abbrev pub SlotsSuffice : LaunchGraph → Table → ℕ → Listed → Type 0
SlotsSuffice g table k e =
    (v : ℕ → Bool) → Fits g table e.allocation k (shown v (launch_vars e))
    → HasExtension (pins_formula g table k e).vars v (capacity_part g table k e)

-- what is shown in the formula of cycles, slots and values is shown in the whole one, where it fits
pub complete_with_slots : AreExact → (g : LaunchGraph) (table : Table) (k : ℕ) (e : Listed) → IsLaunchGraph g → (ls : List Launch) → Fits g table e.allocation k ls → ((t : ℕ) → IsLeft g ls t (memory_before g ls t)) → ((t a b : ℕ) → IsLeft g ls t a → IsLeft g ls t b → a ≡ b)
    → SayApart g table k e → All (HasPlace table k) ls → AreShown g table k e ls → SayPinsFit g table k e → SlotsSuffice g table k e
    → (v : ℕ → Bool) × Satisfies v (whole_formula g table k e).clauses × ((l : Launch) → Contains (shown v (launch_vars e)) l ↔ Contains ls l)
complete_with_slots exact g table k e is_graph ls fit left once apart places here fits suffice =
    let v = here.values in
    let alike : Extends (after_counters g table k e) v v = λ x le. refl in
    let S : List Launch = shown v (launch_vars e) in
    let members = here.show v alike in
    let placed : All (HasPlace table k) S = All-from_members (HasPlace table k) S (λ l h. All-contains (HasPlace table k) ls l places ((members l).0 h)) in
    let same = shown-same table k ls S members (apart v (here.satisfy v alike)) placed in
    let m = made exact g table k e is_graph ls fit left once v same here.overwrite in
    let pins : (u : ℕ → Bool) → Made g table k ls e v u → Satisfies u (pins_formula g table k e).clauses = λ u d. satisfied exact g table k e is_graph ls fit left once v same here.overwrite u d (here.satisfy u d.extends) (here.overwrite u d.extends) in
    let w : ℕ → Bool = m.values in
    let more : HasExtension (pins_formula g table k e).vars w (capacity_part g table k e) = suffice w (fits w (pins w (m.goes w (λ x le. refl)))) in
    let u : ℕ → Bool = more.0 in
    let d : Made g table k ls e v u = m.goes u more.1 in
    (u, both u (pins_formula g table k e).clauses (capacity_part g table k e) (pins u d) more.2, here.show u d.extends)
