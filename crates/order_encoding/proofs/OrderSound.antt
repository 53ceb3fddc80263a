-- Launches that keep the rules of cycles, slots and values, and of which the families hold, make a schedule that fits
-- where sets may have pins.
use Rattle.std.proofs.Common.{◌≡◌, ℕ, suc, zero, ◌+◌, ◌-◌, ◌<◌, ◌≤◌, Bool, true, false, not, List, length, get_or, refl, sym, ap, ◌∙◌, subst, arith, inl, inr, ◌⊎◌, Option, Some, None}
use Rattle.std.specs.Prelude.{◌&&◌, ◌==◌, nat_le, is_some, IsTrue, Contains, slice_get, option_and_then}
use Rattle.std.specs.Option.{option_map_or}
use Rattle.std.specs.List.{All, AllPairs, list_any, count_by, range_with_len}
use Rattle.std.proofs.lemmas.Option.{same_Some}
use Rattle.std.proofs.lemmas.Bool.{false≢true, cases_Bool, eqb-true, leb-true, and_parts, and_from, or_left, or_right, not_from_false}
use Rattle.std.proofs.lemmas.List.Sums.{sum_by-le}
use Rattle.std.proofs.lemmas.List.Elements.{All-contains, Contains-get_or}
use Rattle.graph_meaning.specs.Graphs.{is_memory_name, is_input_register}
use Rattle.schedule_meaning.specs.Launches.{launches, is_store, is_load, is_branch, is_held, HasInput, pin_of, goes_to, overwrites, takes_pool}
use Rattle.schedule_meaning.specs.Fits.{MayLoadOver, Collide, HasRoom, IsWhereWanted, AreReached, KeepsMemory, HasOneBranch, Waits, Fits}
use Rattle.schedule_meaning.specs.declared.schedules.To.TheVariants.{Set}
use Rattle.schedule_meaning.specs.declared.schedules.Allocation.{Allocation}
use Rattle.schedule_meaning.specs.declared.schedules.Allocation.TheVariants.{Live}
use Rattle.schedule_meaning.specs.declared.schedules.Launch.{Launch}
use Rattle.schedule_meaning.proofs.Rules.{at_each, in_list}
use Rattle.schedule_meaning.proofs.Pins.{pinned_from}
use Rattle.machine_table.specs.declared.tables.Table.{Table}
use Rattle.graph_meaning.specs.declared.graphs.LaunchGraph.{LaunchGraph}
use Rattle.graph_meaning.specs.declared.graphs.SetClass.{SetClass}
use Rattle.cycle_encoding.specs.Families.{any}
use Rattle.cycle_encoding.specs.Variables.{set_numbers, is_overwriting, overwriting_sets, Overwritten, pinned_sets}
use Rattle.cycle_encoding.specs.Families.{is_input_at, takes_input}
use Rattle.cycle_encoding.specs.CycleRules.{KeepsCycleRules, IsFreeReached, WasOverwritten}
use Rattle.order_encoding.specs.OrderVariables.{Taken}
use Rattle.order_encoding.specs.OrderFamilies.{branches_by, waits, is_taken_at}
use Rattle.order_encoding.specs.PinFamilies.{is_overwritten_at, unmet_sets, has_own_input}
use Rattle.cycle_encoding.proofs.Tests.{one_at, same_at, some_of, some_in, guarded}
use Rattle.cycle_encoding.proofs.PinnedTests.{at-is}
use Rattle.cycle_encoding.proofs.Members.{filter-in, range-in}
use Rattle.cycle_encoding.proofs.Counting.{count-one, count-none, count-any, count-by-places}
use Rattle.cycle_encoding.proofs.MadeLists.{at_range}
use Rattle.order_encoding.proofs.Destinations.{can_go}
use Rattle.order_encoding.proofs.Says.{SaysGuard}
use Rattle.order_encoding.proofs.OrderSays.{SaysPins, SaysLate, SaysPool}

module _ (g : LaunchGraph) (table : Table) (k : ℕ) (S : List Launch) where
  -- ---- what is overwritten

  set_same : (i j : ℕ) → Set i ≡ Set j → i ≡ j
  set_same i j e = cc

  -- the set of this number, where it has this pin
  set_of : (j r : ℕ) → pin_of g (Set j) ≡ Some r → (s : SetClass) × (slice_get g.sets j ≡ Some s) × (s.pin ≡ Some r)
  set_of j r h =
      let p = pinned_from g (Set j) r h in
      (p.1, ap (slice_get g.sets) (set_same j p.0 p.2) ∙ p.3, p.4)

  pinned_here : (j r : ℕ) → pin_of g (Set j) ≡ Some r → Contains (pinned_sets g) j
  pinned_here j r h =
      let s = set_of j r h in
      let lt : j < length g.sets = in_list g.sets j s.0 s.1 in
      filter-in (λ j. is_some (pin_of g (Set j))) (set_numbers g) j (range-in 0 (length g.sets) j (omega arith) (omega arith)) (ap is_some h)

  module _ (V : List Overwritten) (pins : SaysPins g table k S V) where
    -- a launch that went to an overwriting set is known of in all later cycles
    known : (j : ℕ) → Contains (overwriting_sets g) j → (l : Launch) → Contains S l → goes_to j l ≡ true → (d : ℕ) → l.cycle + 1 + d ≤ k → list_any (is_overwritten_at j (l.cycle + 1 + d)) V ≡ true
    known j hj l hl t zero le =
        let e : l.cycle + 1 ≡ l.cycle + 1 + 0 = omega arith in
        subst (λ c. list_any (is_overwritten_at j c) V ≡ true) e (All-contains (λ l. goes_to j l ≡ true → list_any (is_overwritten_at j (l.cycle + 1)) V ≡ true) S l (All-contains (λ j. All (λ l. goes_to j l ≡ true → list_any (is_overwritten_at j (l.cycle + 1)) V ≡ true) S) (overwriting_sets g) j pins.went hj) hl t)
    known j hj l hl t (suc d) le =
        let before = known j hj l hl t d (omega arith) in
        let c : ℕ = l.cycle + 1 + d in
        let v = some_of (is_overwritten_at j c) V before in
        let all = at_range (λ t. All (λ v. is_overwritten_at j t v ≡ true → list_any (is_overwritten_at j (t + 1)) V ≡ true) V) k (All-contains (λ j. All (λ t. All (λ v. is_overwritten_at j t v ≡ true → list_any (is_overwritten_at j (t + 1)) V ≡ true) V) (range_with_len 0 k)) (overwriting_sets g) j pins.on hj) c (omega arith) in
        let next : list_any (is_overwritten_at j (c + 1)) V ≡ true = All-contains (λ v. is_overwritten_at j c v ≡ true → list_any (is_overwritten_at j (c + 1)) V ≡ true) V v.0 all v.1 v.2 in
        let e : c + 1 ≡ l.cycle + 1 + suc d = omega arith in
        subst (λ c. list_any (is_overwritten_at j c) V ≡ true) e next

    later_by : (a b : ℕ) → a < b → (d : ℕ) × (b ≡ a + 1 + d)
    later_by a b lt = (b - (a + 1), omega arith)

    over_same : (v w : Overwritten) → v.set ≡ w.set → v.cycle ≡ w.cycle → v ≡ w
    over_same v w p q =
        let x : v ≡ record { set = w.set; cycle = v.cycle } = ap (λ s. record { set = s; cycle = v.cycle }) p in
        let y : record { set = w.set; cycle = v.cycle } ≡ w = ap (λ t. record { set = w.set; cycle = t }) q in
        x ∙ y

    -- a set that is pinned to an input's register is one of those sets
    over_number : (j : ℕ) → is_overwriting g j ≡ true → Contains (overwriting_sets g) j
    over_number j t =
        let r = some_pin (pin_of g (Set j)) t in
        let s = set_of j r.0 r.1 in
        let lt : j < length g.sets = in_list g.sets j s.0 s.1 in
        filter-in (is_overwriting g) (set_numbers g) j (range-in 0 (length g.sets) j (omega arith) (omega arith)) t
      where
        some_pin : (o : Option ℕ) → option_map_or (is_input_register g) o false ≡ true → (r : ℕ) × (o ≡ Some r)
        some_pin None h = absurd (false≢true h)
        some_pin (Some r) h = (r, refl)

    -- what was overwritten is known to be so
    pub over_known : (v : Overwritten) → is_overwriting g v.set ≡ true → v.cycle ≤ k → WasOverwritten S v → Contains V v
    over_known v h le (n, l, lt, e, (goes, early)) =
        let at = over_number v.set h in
        let d = later_by l.cycle v.cycle early in
        let w = some_of (is_overwritten_at v.set v.cycle) V (subst (λ c. list_any (is_overwritten_at v.set c) V ≡ true) (sym d.1) (known v.set at l (n, lt, e) goes d.0 (omega (arith, d.1)))) in
        let p = and_parts (w.0.set == v.set) (w.0.cycle == v.cycle) w.2 in
        subst (λ x. Contains V x) (over_same w.0 v (eqb-true w.0.set v.set p.0) (eqb-true w.0.cycle v.cycle p.1)) w.1

  -- ---- targets

  module _ (few : (j r : ℕ) → pin_of g (Set j) ≡ Some r → count_by (goes_to j) S ≤ 1) (some : All (λ j. list_any (goes_to j) S ≡ true) (unmet_sets g)) where
    takes_in : (c j : ℕ) → takes_input g c j ≡ true → (r : ℕ) × (pin_of g (Set j) ≡ Some r) × (is_input_at g c r ≡ true)
    takes_in c j h = by (pin_of g (Set j)) h
      where
        by : (o : Option ℕ) → option_map_or (is_input_at g c) o false ≡ true → (r : ℕ) × (o ≡ Some r) × (is_input_at g c r ≡ true)
        by None h = absurd (false≢true h)
        by (Some r) h = (r, refl, h)

    own_input_is : (j : ℕ) (s : SetClass) (r : ℕ) → slice_get g.sets j ≡ Some s → s.pin ≡ Some r → has_own_input g j ≡ true → HasInput g s.class (λ q. q ≡ r)
    own_input_is j s r e p h =
        let takes : takes_input g s.class j ≡ true = ap (λ o. option_map_or (λ s. takes_input g s.class j) o false) (sym e) ∙ h in
        let w = takes_in s.class j takes in
        let same : w.0 ≡ r = same_Some w.0 r (sym w.1 ∙ ap (option_and_then (λ s. s.pin)) e ∙ p) in
        at-is g s.class r (subst (λ q. is_input_at g s.class q ≡ true) same w.2)

    one_goes : (j : ℕ) → list_any (goes_to j) S ≡ true → 1 ≤ count_by (goes_to j) S
    one_goes j h =
        let l = some_of (goes_to j) S h in
        let at : get_or S l.1.0 l.0 ≡ l.0 = l.1.2 in
        one_at (goes_to j) S l.1.0 l.0 l.1.1 (ap (goes_to j) at ∙ l.2)

    none_goes : (j : ℕ) → list_any (goes_to j) S ≡ false → count_by (goes_to j) S ≡ 0
    none_goes j f = count-none (goes_to j) S (λ i d lt t. false≢true (sym f ∙ some_in (goes_to j) S (get_or S i d) (Contains-get_or S i d lt) t))

    reach_pinned : (j : ℕ) (s : SetClass) (r : ℕ) → slice_get g.sets j ≡ Some s → s.pin ≡ Some r → (count_by (goes_to j) S ≡ 1) ⊎ ((count_by (goes_to j) S ≡ 0) × HasInput g s.class (λ q. q ≡ r))
    reach_pinned j s r e p =
        let w : pin_of g (Set j) ≡ Some r = ap (option_and_then (λ s. s.pin)) e ∙ p in
        let here = pinned_here j r w in
        let most = few j r w in
        elim (cases_Bool (list_any (goes_to j) S)) [
          | inl t ↦ (let least = one_goes j t in inl (omega arith))
          | inr f ↦ elim (cases_Bool (has_own_input g j)) [
            | inl i ↦ inr (none_goes j f, own_input_is j s r e p i)
            | inr n ↦ absurd (false≢true (sym f ∙ All-contains (λ j. list_any (goes_to j) S ≡ true) (unmet_sets g) j some (filter-in (λ j. not (has_own_input g j)) (pinned_sets g) j here (not_from_false (has_own_input g j) n))))
          ]
        ]

    place_by : (j : ℕ) (s : SetClass) → slice_get g.sets j ≡ Some s → is_memory_name s.name ≡ false → (o : Option ℕ) → s.pin ≡ o → IsFreeReached g S s → IsWhereWanted g S j s o
    place_by j s e a (Some r) p h = reach_pinned j s r e p
    place_by j s e a None p h = elim (h p) [ inl m ↦ absurd (false≢true (sym a ∙ m)) | inr q ↦ q ]

    pub all_reached : All (IsFreeReached g S) g.sets → AreReached g S
    all_reached free j s e =
        elim (cases_Bool (is_memory_name s.name)) [
          | inl m ↦ inl m
          | inr a ↦ inr (place_by j s e a s.pin refl (at_each (IsFreeReached g S) g.sets free j s e))
        ]

  -- ---- the branch

  module _ (B : List ℕ) (says : SaysGuard g table k S B) (late : SaysLate g table k S B) (once : is_some g.guard ≡ true → count_by (launches g is_branch) S ≤ 1) where
    waits_by : (l : Launch) (i : ℕ) (d : Launch) → i < length S → get_or S i d ≡ l → is_some g.guard ≡ true → IsTrue (launches g is_store l) ⊎ (IsTrue (launches g is_load l) × IsTrue (is_held g)) ⊎ IsTrue (overwrites g l) → list_any (λ t. t == l.cycle) B ≡ true
    waits_by l i d lt at guard (inl a) = subst (λ l. waits g l ≡ true → list_any (λ t. t == l.cycle) B ≡ true) at (says.wait guard i d lt) (or_left (launches g is_store l) (launches g is_load l && is_held g) a)
    waits_by l i d lt at guard (inr (inl b)) = subst (λ l. waits g l ≡ true → list_any (λ t. t == l.cycle) B ≡ true) at (says.wait guard i d lt) (or_right (launches g is_store l) (launches g is_load l && is_held g) (and_from (launches g is_load l) (is_held g) b.0 b.1))
    waits_by l i d lt at guard (inr (inr o)) = subst (λ l. overwrites g l ≡ true → list_any (λ t. t == l.cycle) B ≡ true) at (late guard i d lt) o

    pub all_wait : All (Waits g S) S
    all_wait i d lt w j e len isb =
        let l = get_or S i d in
        let b = get_or S j e in
        let guard = guarded g b isb in
        let t = some_of (λ t. t == l.cycle) B (waits_by l i d lt refl guard w) in
        let c = some_of (branches_by g t.0) S (All-contains (λ t. list_any (branches_by g t) S ≡ true) B t.0 (says.come guard) t.1) in
        let p = and_parts (launches g is_branch c.0) (nat_le c.0.cycle t.0) c.2 in
        let same : b ≡ c.0 = same_at (launches g is_branch) S (once guard) b c.0 (Contains-get_or S j e len) isb c.1 p.0 in
        let at : t.0 ≡ l.cycle = eqb-true t.0 l.cycle t.2 in
        let le : c.0.cycle ≤ t.0 = leb-true c.0.cycle t.0 p.1 in
        let cycles : b.cycle ≡ c.0.cycle = ap (λ (l : Launch). l.cycle) same in
        omega arith

  -- ---- registers

  module _ (U : List Taken) (says : SaysPool g table k S U) (few : count_by any U ≤ length g.pool)
      (alone : AllPairs (λ l m. ¬ Collide l m) S) where
    abbrev takes : Taken → Launch → Bool
    takes u l = is_taken_at l.slot l.cycle u

    one_each : (u : Taken) → count_by (λ l. takes_pool g l && takes u l) S ≤ 1
    one_each u =
        count-one (λ l. takes_pool g l && takes u l) S (λ i j d lt len p q.
        let a = get_or S i d in
        let b = get_or S j d in
        let pa = and_parts (u.slot == a.slot) (u.cycle == a.cycle) (and_parts (takes_pool g a) (takes u a) p).1 in
        let pb = and_parts (u.slot == b.slot) (u.cycle == b.cycle) (and_parts (takes_pool g b) (takes u b) q).1 in
        alone i j d lt len (sym (eqb-true u.cycle a.cycle pa.1) ∙ eqb-true u.cycle b.cycle pb.1, sym (eqb-true u.slot a.slot pa.0) ∙ eqb-true u.slot b.slot pb.0))

    pub pool_in : count_by (takes_pool g) S ≤ length g.pool
    pool_in =
        let a = count-by-places (takes_pool g) takes U S says in
        let b = sum_by-le (λ u. count_by (λ l. takes_pool g l && takes u l) S) 1 U (λ i d lt. one_each (get_or U i d)) in
        let c = count-any U in
        omega arith

  pub fits_with_pins : (a : Allocation) → KeepsCycleRules g table a k S → ((l : Launch) → Contains S l → IsTrue (launches g is_load l) → IsTrue (overwrites g l) → a ≡ Live → MayLoadOver g a S l)
      → AreReached g S → KeepsMemory g S → HasOneBranch g S → All (Waits g S) S → HasRoom g a k S → Fits g table a k S
  fits_with_pins a rules loads targets memory branch after pool = record {
    rows = rules.rows;
    destinations = λ i d lt. can_go g a S (get_or S i d) (loads (get_or S i d) (Contains-get_or S i d lt)) (rules.destinations i d lt);
    apart = rules.apart;
    operands = rules.operands;
    in_time = rules.in_time;
    targets = targets;
    memory = memory;
    one_branch = branch;
    after_branch = after;
    pool = pool;
  }
