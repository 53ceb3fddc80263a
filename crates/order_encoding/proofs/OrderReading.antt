-- Values that satisfy the whole formula with pins show a schedule that fits.
use Rattle.std.proofs.Common.{◌≡◌, ℕ, ◌+◌, ◌<◌, ◌≤◌, Bool, true, false, List, [], ◌∷◌, ◌++◌, length, get_or, ap, ◌∙◌, subst, arith, Some}
use Rattle.std.specs.Prelude.{◌==◌, is_some, Contains, slice_get}
use Rattle.std.specs.List.{All, AllPairs, count_by, range_with_len}
use Rattle.std.proofs.lemmas.List.Elements.{All-nil, All-cons, All-head, All-map, All-append, All-contains}
use Rattle.cnf_core.specs.declared.literal.Lit.{Lit}
use Rattle.cnf_core.specs.Formula.{Satisfies, AreOver, IsLitOf}
use Rattle.cnf_core.specs.Counter.{count_true}
use Rattle.schedule_meaning.specs.Launches.{launches, is_branch, pin_of, goes_to}
use Rattle.graph_meaning.specs.WellFormed.{IsLaunchGraph}
use Rattle.schedule_meaning.specs.Fits.{Collide, Fits, HasRoom}
use Rattle.machine_table.specs.declared.tables.Table.{Table}
use Rattle.graph_meaning.specs.declared.graphs.LaunchGraph.{LaunchGraph}
use Rattle.schedule_meaning.specs.declared.schedules.To.TheVariants.{Set}
use Rattle.schedule_meaning.specs.declared.schedules.Allocation.{Allocation}
use Rattle.schedule_meaning.specs.declared.schedules.Allocation.TheVariants.{Block, Live}
use Rattle.schedule_meaning.specs.declared.schedules.Launch.{Launch}
use Rattle.schedule_meaning.proofs.Rules.{in_list}
use Rattle.schedule_meaning.proofs.Pins.{pinned_from}
use Rattle.cycle_encoding.specs.Shapes.{vars_of, shown, counters, when}
use Rattle.cycle_encoding.specs.Families.{any}
use Rattle.cycle_encoding.specs.CycleFormula.{Listed, before_overwritten, launch_vars}
use Rattle.cycle_encoding.specs.CycleRules.{HasPlace}
use Rattle.cycle_encoding.specs.Variables.{all_overwritten, is_overwriting, set_numbers, pinned_sets, Overwritten}
use Rattle.cycle_encoding.specs.CycleFormula.{overwritten_vars, after_counters, cycle_part, cycle_formula}
use Rattle.cycle_encoding.specs.CycleRules.{KeepsCycleRules, ArePinsKept, WasOverwritten}
use Rattle.order_encoding.specs.OrderVariables.{Held, all_held, all_taken}
use Rattle.order_encoding.specs.OrderFamilies.{stores_at, entry_clauses, memory_clauses, kept_clauses, held_groups, store_groups, last_memory_clauses, branch_clauses, branch_groups, wait_clauses, come_clauses, register_groups}
use Rattle.order_encoding.specs.PinFamilies.{pool_clauses, overwritten_clauses, pin_groups, pin_clauses, late_clauses, load_clauses}
use Rattle.order_encoding.specs.LiveVariables.{Hold, all_holds, all_needs, pooled_classes}
use Rattle.order_encoding.specs.LiveFamilies as live
use Rattle.order_encoding.specs.LiveFamilies.{need_clauses, earlier_clauses, hold_clauses, hold_groups}
use Rattle.order_encoding.specs.WholeFormula.{pool_formula, pins_formula}
use Rattle.order_encoding.proofs.Parts.{held_vars, before_stores, store_vars, before_held, memory_groups, come_vars, before_branch, after_guard, taken_vars, before_pool, need_vars, before_holds, hold_vars, before_counts, after_pool, memory_part, guard_part, registers_part, live_part, pool_part_of, pool_part, pool-clauses, pool-up, pins_part}
use Rattle.cycle_encoding.proofs.Shown.{left, right}
use Rattle.cycle_encoding.proofs.ShownTests.{few-out}
use Rattle.cycle_encoding.proofs.Blocks.{AreExact, vars-over, counters-out}
use Rattle.cycle_encoding.proofs.MadeLists.{at_range, All-left, All-right, All-unmap}
use Rattle.cycle_encoding.proofs.Lists.{over-once}
use Rattle.cycle_encoding.proofs.Members.{filter-in, range-in, range-once}
use Rattle.cycle_encoding.proofs.Unshown.{hidden, one-side, shown-within}
use Rattle.order_encoding.proofs.Says.{SaysMemory, SaysGuard, entry-out, memory-out, kept-out, last-out, branch-out, wait-out, come-out}
use Rattle.order_encoding.proofs.Sound.{keeps, one_branch}
use Rattle.order_encoding.proofs.OrderSays.{SaysPins, over-out, pins-out, late-out, pool-out}
use Rattle.order_encoding.proofs.LiveListing.{needs-once, pooled-once, pooled-by}
use Rattle.order_encoding.proofs.LiveSays.{SaysLive, needs-out, earlier-out, holds-out, alone-out}
use Rattle.order_encoding.proofs.LiveSays.{last-out as last-needs-out}
use Rattle.order_encoding.proofs.LiveSound.{live_room, loads_may}
use Rattle.order_encoding.proofs.OrderSound.{over_known, all_reached, all_wait, pool_in, fits_with_pins}

when-over : (b : Bool) (P : List Lit → Type 0) (cs : List (List Lit)) → All P cs → All P (when b cs)
when-over true P cs h = h
when-over false P cs h = All-nil P

-- what the law on the clauses of cycles, slots and values says of a list
abbrev pub SayPinnedRules : LaunchGraph → Table → ℕ → Listed → Type 0
SayPinnedRules g table k e =
    (v : ℕ → Bool) → Satisfies v (cycle_formula g table k e).clauses
    → ArePinsKept g k (shown v (launch_vars e)) (shown v (overwritten_vars g table k e))
    → KeepsCycleRules g table e.allocation k (shown v (launch_vars e))

abbrev pub HavePinnedPlaces : LaunchGraph → Table → Allocation → ℕ → Type 0
HavePinnedPlaces g table a k = (ls : List Launch) → KeepsCycleRules g table a k ls → All (HasPlace table k) ls

module _ (g : LaunchGraph) (table : Table) (k : ℕ) (e : Listed) where
  abbrev xs : List (ℕ × Launch)
  xs = launch_vars e

  -- the literals of each group are of variables before it
  pub pinned-memory-over : AreOver (before_held g table k e) (memory_groups g table k e)
  pinned-memory-over =
      All-append (All (IsLitOf (before_held g table k e))) (held_groups k (held_vars g table k e)) (store_groups g k xs)
      (All-map (All (IsLitOf (before_held g table k e))) (λ t. vars_of (λ (m : Held). m.cycle == t) (held_vars g table k e)) (range_with_len 0 (k + 1))
      (λ j c len. vars-over (λ (m : Held). m.cycle == (get_or (range_with_len 0 (k + 1)) j c)) (after_counters g table k e) (before_held g table k e) (all_held g k) (omega arith)))
      (All-map (All (IsLitOf (before_held g table k e))) (λ t. vars_of (stores_at g t) xs) (range_with_len 0 k)
      (λ j c len. vars-over (stores_at g (get_or (range_with_len 0 k) j c)) 0 (before_held g table k e) e.launches (omega arith)))

  pub pinned-branch-over : AreOver (before_branch g table k e) (branch_groups g xs)
  pinned-branch-over =
      when-over (is_some g.guard) (All (IsLitOf (before_branch g table k e))) (vars_of (launches g is_branch) xs ∷ [])
      (All-cons (All (IsLitOf (before_branch g table k e))) (vars_of (launches g is_branch) xs) []
      (vars-over (launches g is_branch) 0 (before_branch g table k e) e.launches (omega arith)) (All-nil (All (IsLitOf (before_branch g table k e)))))

  pub pinned-pool-over : AreOver (before_pool g table k e) (register_groups (taken_vars g table k e))
  pinned-pool-over =
      All-cons (All (IsLitOf (before_pool g table k e))) (vars_of any (taken_vars g table k e)) []
      (vars-over any (after_guard g table k e) (before_pool g table k e) (all_taken table k) (omega arith)) (All-nil (All (IsLitOf (before_pool g table k e))))

  pub holds-over : AreOver (before_counts g table k e) (hold_groups k (hold_vars g table k e))
  holds-over =
      All-map (All (IsLitOf (before_counts g table k e))) (λ t. vars_of (λ (x : Hold). x.cycle == t) (hold_vars g table k e)) (range_with_len 0 k)
      (λ j c len. vars-over (λ (x : Hold). x.cycle == (get_or (range_with_len 0 k) j c)) (before_holds g table k e) (before_counts g table k e) (all_holds table k) (omega arith))

  pub pins-over : AreOver (after_pool g table k e) (pin_groups g xs)
  pins-over =
      All-map (All (IsLitOf (after_pool g table k e))) (λ j. vars_of (goes_to j) xs) (pinned_sets g)
      (λ i d lt. vars-over (goes_to (get_or (pinned_sets g) i d)) 0 (after_pool g table k e) e.launches (let up = pool-up g table k e in omega arith))

  -- ---- what the groups' counts say of the launches

  module _ (v : ℕ → Bool) where
    abbrev S : List Launch
    S = shown v xs

    held-few : All (λ c. count_true v c ≤ 1) (memory_groups g table k e) → (t : ℕ) → t ≤ k → count_by (λ (m : Held). m.cycle == t) (shown v (held_vars g table k e)) ≤ 1
    held-few h t le =
        few-out v (λ (m : Held). m.cycle == t) (held_vars g table k e) 1
        (at_range (λ t. count_true v (vars_of (λ (m : Held). m.cycle == t) (held_vars g table k e)) ≤ 1) (k + 1)
        (All-unmap (λ c. count_true v c ≤ 1) (λ t. vars_of (λ (m : Held). m.cycle == t) (held_vars g table k e)) (range_with_len 0 (k + 1))
        (All-left (λ c. count_true v c ≤ 1) (held_groups k (held_vars g table k e)) (store_groups g k xs) h)) t (omega arith))

    stores-few : All (λ c. count_true v c ≤ 1) (memory_groups g table k e) → (t : ℕ) → t < k → count_by (stores_at g t) S ≤ 1
    stores-few h t lt =
        few-out v (stores_at g t) xs 1
        (at_range (λ t. count_true v (vars_of (stores_at g t) xs) ≤ 1) k
        (All-unmap (λ c. count_true v c ≤ 1) (λ t. vars_of (stores_at g t) xs) (range_with_len 0 k)
        (All-right (λ c. count_true v c ≤ 1) (held_groups k (held_vars g table k e)) (store_groups g k xs) h)) t lt)

    when-few : (b : Bool) → b ≡ true → (P : List Lit → Type 0) (c : List Lit) → All P (when b (c ∷ [])) → P c
    when-few true e P c h = All-head P c [] h
    when-few false e P c h = absurd (let f : false ≡ true = e in cc)

    branch-few : All (λ c. count_true v c ≤ 1) (branch_groups g xs) → is_some g.guard ≡ true → count_by (launches g is_branch) S ≤ 1
    branch-few h y = few-out v (launches g is_branch) xs 1 (when-few (is_some g.guard) y (λ c. count_true v c ≤ 1) (vars_of (launches g is_branch) xs) h)

    set_same : (i j : ℕ) → Set i ≡ Set j → i ≡ j
    set_same i j e = cc

    pinned_here : (j r : ℕ) → pin_of g (Set j) ≡ Some r → Contains (pinned_sets g) j
    pinned_here j r h =
        let p = pinned_from g (Set j) r h in
        let at : slice_get g.sets j ≡ Some p.1 = ap (slice_get g.sets) (set_same j p.0 p.2) ∙ p.3 in
        let lt : j < length g.sets = in_list g.sets j p.1 at in
        filter-in (λ j. is_some (pin_of g (Set j))) (set_numbers g) j (range-in 0 (length g.sets) j (omega arith) (omega arith)) (ap is_some h)

    pins-few : All (λ c. count_true v c ≤ 1) (pin_groups g xs) → (j r : ℕ) → pin_of g (Set j) ≡ Some r → count_by (goes_to j) S ≤ 1
    pins-few h j r w =
        few-out v (goes_to j) xs 1 (All-contains (λ j. count_true v (vars_of (goes_to j) xs) ≤ 1) (pinned_sets g) j (All-unmap (λ c. count_true v c ≤ 1) (λ j. vars_of (goes_to j) xs) (pinned_sets g) h) (pinned_here j r w))

  -- ---- registers

  module _ (exact : AreExact) (is_graph : IsLaunchGraph g) (v : ℕ → Bool) (alone : AllPairs (λ l m. ¬ Collide l m) (S v)) (below : All (λ l. l.cycle < k) (S v))
      (over : (o : Overwritten) → is_overwriting g o.set ≡ true → o.cycle ≤ k → WasOverwritten (S v) o → Contains (shown v (overwritten_vars g table k e)) o) where
    registers-out : Satisfies v (registers_part g table k e) → HasRoom g Block k (S v)
    registers-out h =
        let us = taken_vars g table k e in
        let c15 = pool_clauses g xs us in
        let c16 = counters (before_pool g table k e) (length g.pool) (register_groups us) in
        let taken = pool-out g table k v xs us (left v c15 c16 h) in
        let few16 = counters-out exact (length g.pool) (before_pool g table k e) (before_pool g table k e) v (register_groups us) (omega arith) pinned-pool-over (right v c15 c16 h) in
        let pooled : count_by any (shown v us) ≤ length g.pool = few-out v any us (length g.pool) (All-head (λ c. count_true v c ≤ length g.pool) (vars_of any us) [] few16) in
        pool_in g table k (S v) (shown v us) taken pooled alone

    live-out : Satisfies v (live_part g table k e) → HasRoom g Live k (S v)
    live-out h =
        let vs = overwritten_vars g table k e in
        let ns = need_vars g table k e in
        let hs = hold_vars g table k e in
        let a = need_clauses g xs ns in
        let b = earlier_clauses ns in
        let c = live.last_need_clauses g k xs ns vs in
        let d = hold_clauses g k xs ns hs in
        let n = before_counts g table k e in
        let f = counters n (length g.pool) (hold_groups k hs) in
        let h4 = left v (a ++ b ++ c ++ d) f h in
        let h3 = left v (a ++ b ++ c) d h4 in
        let h2 = left v (a ++ b) c h3 in
        let held = holds-out g k xs v ns hs (right v (a ++ b ++ c) d h4) in
        let says : SaysLive g k xs (S v) (shown v ns) (hidden v ns) (shown v hs) (hidden v vs) = record {
          needs = needs-out g k xs v ns (left v a b h2);
          earlier = earlier-out g k xs v ns (right v a b h2);
          last = last-needs-out g k xs v ns vs (right v (a ++ b) c h3);
          own = held.0;
          on = held.1;
        } in
        let few = counters-out exact (length g.pool) n n v (hold_groups k hs) (omega arith) holds-over (right v (a ++ b ++ c ++ d) f h) in
        live_room g k xs (S v) (shown v ns) (hidden v ns) (shown v hs) (hidden v vs) (shown v vs) says
        (λ l hl takes. pooled-by g 0 e.launches l (shown-within v 0 e.launches l hl) takes)
        (λ x p q. one-side v (after_guard g table k e) (all_needs k (pooled_classes g xs)) (needs-once k (pooled_classes g xs) (pooled-once g xs)) x p q)
        is_graph.own_pins over
        (λ x p q. one-side v (before_overwritten e) (all_overwritten g k) (over-once g table k) x p q)
        below
        (λ t lt. few-out v (λ (x : Hold). x.cycle == t) hs (length g.pool) (at_range (λ t. count_true v (vars_of (λ (x : Hold). x.cycle == t) hs) ≤ length g.pool) k (All-unmap (λ c. count_true v c ≤ length g.pool) (λ t. vars_of (λ (x : Hold). x.cycle == t) hs) (range_with_len 0 k) few) t lt))
        alone

    room-of : (a : Allocation) → Satisfies v (pool_part_of g table k e a) → HasRoom g a k (S v)
    room-of Block h = registers-out h
    room-of Live h = live-out h

  -- ---- the whole

  pub fits : AreExact → IsLaunchGraph g → SayPinnedRules g table k e → HavePinnedPlaces g table e.allocation k → (v : ℕ → Bool) → Satisfies v (pins_formula g table k e).clauses → Fits g table e.allocation k (shown v xs)
  fits exact is_graph cycles places v h =
      let ms = held_vars g table k e in
      let ws = store_vars g table k e in
      let bs = come_vars g table k e in
      let c5 = entry_clauses g ms in
      let c6 = memory_clauses g xs ms ws in
      let c7 = kept_clauses g k xs ms ws in
      let c8 = counters (before_held g table k e) 1 (memory_groups g table k e) in
      let c10 = last_memory_clauses g k ms in
      let c11 = branch_clauses g xs in
      let c12 = counters (before_branch g table k e) 1 (branch_groups g xs) in
      let c13 = wait_clauses g xs bs in
      let c14 = come_clauses g xs bs in
      let p1 = cycle_part g table k e in
      let p2 = memory_part g table k e in
      let p3 = guard_part g table k e in
      let p4 = pool_part g table k e in
      let p5 = pins_part g table k e in
      let vs = overwritten_vars g table k e in
      let c17 = overwritten_clauses g k xs vs in
      let c18 = counters (after_pool g table k e) 1 (pin_groups g xs) in
      let c19 = pin_clauses g xs in
      let c20 = late_clauses g xs bs in
      let c22 = load_clauses g xs ws in
      let all = (pool_formula g table k e).clauses in
      let h4 : Satisfies v (p1 ++ p2 ++ p3 ++ p4) = subst (Satisfies v) (pool-clauses g table k e) (left v all p5 h) in
      let q5 = right v all p5 h in
      let h3 = left v (p1 ++ p2 ++ p3) p4 h4 in
      let h2 = left v (p1 ++ p2) p3 h3 in
      let q1 = left v p1 p2 h2 in
      let q2 = right v p1 p2 h2 in
      let q3 = right v (p1 ++ p2) p3 h3 in
      let q4 = right v (p1 ++ p2 ++ p3) p4 h4 in
      let q1720 = left v (c17 ++ c18 ++ c19 ++ c20) c22 q5 in
      let q171819 = left v (c17 ++ c18 ++ c19) c20 q1720 in
      let q1718 = left v (c17 ++ c18) c19 q171819 in
      let overs = over-out g table k v xs vs (left v c17 c18 q1718) in
      let pins : SaysPins g table k (shown v xs) (shown v vs) = record {
        went = overs.0;
        on = overs.1;
        some = pins-out g table k v xs (right v (c17 ++ c18) c19 q171819);
      } in
      let late = late-out g table k v xs bs (right v (c17 ++ c18 ++ c19) c20 q1720) in
      let apart22 = alone-out g k xs v ws (right v (c17 ++ c18 ++ c19 ++ c20) c22 q5) in
      let few18 = pins-few v (counters-out exact 1 (after_pool g table k e) (after_pool g table k e) v (pin_groups g xs) (omega arith) pins-over (right v c17 c18 q1718)) in
      let pinned : ArePinsKept g k (shown v xs) (shown v vs) = record {
        few = few18;
        over = over_known g table k (shown v xs) (shown v vs) pins;
      } in
      let rules : KeepsCycleRules g table e.allocation k (shown v xs) = cycles v q1 pinned in
      let placed = places (shown v xs) rules in
      let below : All (λ l. l.cycle < k) (shown v xs) = λ i d lt. (placed i d lt).1 in
      let q5678 = left v (c5 ++ c6 ++ c7 ++ c8) c10 q2 in
      let q567 = left v (c5 ++ c6 ++ c7) c8 q5678 in
      let q56 = left v (c5 ++ c6) c7 q567 in
      let entries = entry-out g table k v xs ms ws (left v c5 c6 q56) in
      let used = memory-out g table k v xs ms ws (right v c5 c6 q56) in
      let kept = kept-out g table k v xs ms ws (right v (c5 ++ c6) c7 q567) in
      let memories : SaysMemory g table k (shown v xs) (shown v ms) (shown v ws) = record {
        entry = entries.0;
        others = entries.1;
        uses = used.0;
        leaves = used.1;
        stored = kept.0;
        stays = kept.1;
        last = last-out g table k v xs ms ws (right v (c5 ++ c6 ++ c7 ++ c8) c10 q2);
      } in
      let few8 = counters-out exact 1 (before_held g table k e) (before_held g table k e) v (memory_groups g table k e) (omega arith) pinned-memory-over (right v (c5 ++ c6 ++ c7) c8 q5678) in
      let q11 = left v (c11 ++ c12 ++ c13) c14 q3 in
      let q1112 = left v (c11 ++ c12) c13 q11 in
      let guards : SaysGuard g table k (shown v xs) (shown v bs) = record {
        branch = branch-out g table k v xs bs (left v c11 c12 q1112);
        wait = wait-out g table k v xs bs (right v (c11 ++ c12) c13 q11);
        come = come-out g table k v xs bs (right v (c11 ++ c12 ++ c13) c14 q3);
      } in
      let few12 = branch-few v (counters-out exact 1 (before_branch g table k e) (before_branch g table k e) v (branch_groups g xs) (omega arith) pinned-branch-over (right v c11 c12 q1112)) in
      fits_with_pins g table k (shown v xs) e.allocation rules
      (λ l hl load o live. loads_may g k xs (shown v xs) (shown v ws) (hidden v ws) (λ t p q. one-side v (before_stores g table k e) (range_with_len 0 k) (range-once 0 k) t p q) (λ i d lt s. (used.1 i d lt s).1) apart22 e.allocation l hl load o live)
      (all_reached g table k (shown v xs) few18 pins.some rules.targets)
      (keeps g table k (shown v xs) below (shown v ms) (shown v ws) memories (held-few v few8) (stores-few v few8))
      (one_branch g table k (shown v xs) below (shown v bs) guards few12)
      (all_wait g table k (shown v xs) (shown v bs) guards late few12)
      (room-of exact is_graph v rules.apart below pinned.over e.allocation q4)
