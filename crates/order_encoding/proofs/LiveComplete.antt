-- What the families of registers by live ranges say holds of the launches of a schedule that fits, with what is needed
-- and held there.
use Rattle.std.proofs.Common.{◌≡◌, ℕ, ◌+◌, ◌-◌, ◌<◌, ◌≤◌, Bool, true, false, not, cond, List, length, get_or, refl, sym, ap, ◌∙◌, subst, arith, inl, inr, Option, Some, None}
use Rattle.std.specs.Prelude.{◌&&◌, ◌==◌, nat_le, is_some, IsTrue, Contains, slice_get, option_and_then}
use Rattle.std.specs.Option.{option_map_or}
use Rattle.std.specs.List.{filter, list_any, count_by, range_with_len}
use Rattle.std.proofs.lemmas.Bool.{false≢true, cases_Bool, cases_eq, eqb-true, eqb-false, eq-eqb, le-leb, and_parts, and_from, or_left, or_right, not-true, not_from_false}
use Rattle.std.proofs.lemmas.Option.{slice_get-get_or}
use Rattle.std.proofs.lemmas.List.Sums.{sum_by-le-sum_by}
use Rattle.std.proofs.lemmas.List.Elements.{All-contains}
use Rattle.machine_table.specs.declared.tables.Table.{Table}
use Rattle.graph_meaning.specs.Graphs.{IsPin, is_input_register, is_memory_name, is_zero_class}
use Rattle.graph_meaning.specs.WellFormed.{IsLaunchGraph}
use Rattle.graph_meaning.specs.declared.graphs.InputClass.{InputClass}
use Rattle.graph_meaning.specs.declared.graphs.LaunchGraph.{LaunchGraph}
use Rattle.graph_meaning.specs.declared.graphs.SetClass.{SetClass}
use Rattle.schedule_meaning.specs.Launches.{class_at, goes_to, is_free, operands_at, pin_of, writes_pin, HasInput, IsUnwritten}
use Rattle.schedule_meaning.specs.Lifetimes.{holds, is_needed, is_operand_of, is_read_from, is_unpinned_of, is_wanted, reads_class}
use Rattle.schedule_meaning.specs.Readers.{input_where, is_intact}
use Rattle.schedule_meaning.specs.Fits.{HasRoom, IsInSomeRegister, IsReached, IsWhereWanted, AreReached}
use Rattle.schedule_meaning.specs.declared.schedules.Allocation.TheVariants.{Live}
use Rattle.schedule_meaning.specs.declared.schedules.To.TheVariants.{Set}
use Rattle.schedule_meaning.specs.declared.schedules.Launch.{Launch}
use Rattle.schedule_meaning.proofs.Inputs.{has_input_is}
use Rattle.schedule_meaning.proofs.LiveRanges.{holds_own, holds_later, needed_before}
use Rattle.schedule_meaning.proofs.Pins.{pinned_from, writes_from, goes_from}
use Rattle.schedule_meaning.proofs.Rules.{in_list}
use Rattle.cycle_encoding.specs.Shapes.{numbered}
use Rattle.cycle_encoding.specs.Families.{is_input_at, is_lost, is_made_target, takes_input}
use Rattle.cycle_encoding.specs.Variables.{all_overwritten, is_overwriting, is_pin, is_safe, overwriting_sets, set_numbers, Overwritten}
use Rattle.cycle_encoding.specs.CycleRules.{HasPlace, WasOverwritten}
use Rattle.cycle_encoding.proofs.Counting.{count-one, count-none, count-by-places}
use Rattle.cycle_encoding.proofs.Lists.{over-in}
use Rattle.cycle_encoding.proofs.Members.{twice, filter-in, filter-out, filter-once, range-in, range-out, All-from_members}
use Rattle.cycle_encoding.proofs.PinnedTests.{pin-is, at-from, register-from}
use Rattle.cycle_encoding.proofs.Tests.{any_from, some_in, zero-from}
use Rattle.order_encoding.specs.LiveVariables.{Need, Hold, all_holds, all_needs, is_pooled, pooled_classes}
use Rattle.order_encoding.specs.LiveFamilies.{is_need_at, is_hold_at, is_pooled_operand}
use Rattle.order_encoding.specs.OrderSteps.{need_at}
use Rattle.order_encoding.proofs.LiveListing.{hold_at, needs-in, needs-out, pooled-in, pooled-by, holds-in, holds-once}
use Rattle.order_encoding.proofs.LiveSays.{HoldsAt, HoldsOn, HoldsOwn, IsLastNeeded, NeedsOf, SaysLive, WasNeeded}

module _ (g : LaunchGraph) (table : Table) (k : ℕ) (ls launches : List Launch) where
  abbrev xs : List (ℕ × Launch)
  xs = numbered 0 launches

  -- ---- the things that a schedule makes true

  abbrev pub needed_now : Need → Bool
  needed_now n = is_needed g ls n.cycle n.class

  abbrev holding : Hold → Launch → Bool
  holding h l = ((h.slot == l.slot) && (h.start == l.cycle)) && holds g Live ls h.cycle l

  abbrev pub holding_now : Hold → Bool
  holding_now h = list_any (holding h) ls

  abbrev pub needed : List Need
  needed = filter needed_now (all_needs k (pooled_classes g xs))

  abbrev pub unneeded : List Need
  unneeded = filter (λ n. not (needed_now n)) (all_needs k (pooled_classes g xs))

  abbrev pub held_on : List Hold
  held_on = filter holding_now (all_holds table k)

  -- S are the same launches, X is what they don't overwrite
  module _ (S : List Launch) (X : List Overwritten) (is_graph : IsLaunchGraph g)
      (out : (l : Launch) → Contains S l → Contains ls l) (into : (l : Launch) → Contains ls l → Contains S l) (listed : (l : Launch) → Contains S l → Contains launches l)
      (placed : (l : Launch) → Contains S l → HasPlace table k l)
      (reached : AreReached g ls) (room : HasRoom g Live k ls)
      (kept : (v : Overwritten) → Contains (all_overwritten g k) v → (WasOverwritten ls v → ⊥) → Contains X v) where
    -- ---- needs

    need_in : (c t : ℕ) → is_pooled g xs c ≡ true → t < k → is_needed g ls t c ≡ true → list_any (is_need_at c t) needed ≡ true
    need_in c t pooled lt h =
        some_in (is_need_at c t) needed (need_at c t)
        (filter-in needed_now (all_needs k (pooled_classes g xs)) (need_at c t) (needs-in k (pooled_classes g xs) c t (pooled-in g is_graph 0 launches c pooled) lt) h)
        (and_from (c == c) (t == t) (eq-eqb c c refl) (eq-eqb t t refl))

    need_out : (c t : ℕ) → is_pooled g xs c ≡ true → t < k → is_needed g ls t c ≡ false → list_any (is_need_at c t) unneeded ≡ true
    need_out c t pooled lt f =
        some_in (is_need_at c t) unneeded (need_at c t)
        (filter-in (λ n. not (needed_now n)) (all_needs k (pooled_classes g xs)) (need_at c t) (needs-in k (pooled_classes g xs) c t (pooled-in g is_graph 0 launches c pooled) lt) (not_from_false (is_needed g ls t c) f))
        (and_from (c == c) (t == t) (eq-eqb c c refl) (eq-eqb t t refl))

    needs_say : (l : Launch) → Contains S l → NeedsOf g k xs needed l
    needs_say l h =
        All-from_members (λ o. is_pooled_operand g xs o ≡ true → list_any (is_need_at o.class l.cycle) needed ≡ true) (operands_at g l.row) (λ o ho p.
        let q = and_parts (not (is_free g o)) (is_pooled g xs o.class) p in
        let early : l.cycle < k = (placed l h).1 in
        let reads : reads_class g o.class l ≡ true = some_in (is_operand_of g o.class) (operands_at g l.row) o ho (and_from (o.class == o.class) (not (is_free g o)) (eq-eqb o.class o.class refl) q.0) in
        let read : is_read_from g ls l.cycle o.class ≡ true = some_in (λ m. nat_le l.cycle m.cycle && reads_class g o.class m) ls l (out l h) (and_from (nat_le l.cycle l.cycle) (reads_class g o.class l) (le-leb l.cycle l.cycle (omega arith)) reads) in
        need_in o.class l.cycle q.1 early (or_left (is_read_from g ls l.cycle o.class) (is_wanted g ls o.class) read))

    earlier_says : (n : Need) → Contains needed n → WasNeeded g k xs needed n
    earlier_says n h e =
        let f = filter-out needed_now (all_needs k (pooled_classes g xs)) n h in
        let p = needs-out k (pooled_classes g xs) n f.0 in
        let late : ¬ (n.cycle ≡ 0) = eqb-false n.cycle 0 (not-true (n.cycle == 0) e) in
        let pooled = (filter-out (is_pooled g xs) _ n.class p.0).1 in
        let early : n.cycle < k = p.1 in
        need_in n.class (n.cycle - 1) pooled (omega arith) (needed_before g ls (n.cycle - 1) n.cycle n.class (omega arith) f.1)

    -- ---- targets

    set_same : (i j : ℕ) → Set i ≡ Set j → i ≡ j
    set_same i j e = cc

    pin_set : (r : ℕ) → IsPin g r → (j : ℕ) × (pin_of g (Set j) ≡ Some r)
    pin_set r p = (p.0, ap (option_and_then (λ s. s.pin)) (slice_get-get_or g.sets p.0 p.1 p.2 ∙ ap Some p.3) ∙ p.4)

    set_there : (j r : ℕ) → pin_of g (Set j) ≡ Some r → (s : SetClass) × (slice_get g.sets j ≡ Some s) × (s.pin ≡ Some r)
    set_there j r h =
        let p = pinned_from g (Set j) r h in
        (p.1, ap (slice_get g.sets) (set_same j p.0 p.2) ∙ p.3, p.4)

    overwriting_set : (j r : ℕ) → pin_of g (Set j) ≡ Some r → is_input_register g r ≡ true → Contains (overwriting_sets g) j
    overwriting_set j r h i =
        let s = set_there j r h in
        let lt : j < length g.sets = in_list g.sets j s.0 s.1 in
        filter-in (is_overwriting g) (set_numbers g) j (range-in 0 (length g.sets) j (omega arith) (omega arith)) (ap (λ o. option_map_or (is_input_register g) o false) h ∙ i)

    wrote : (j r : ℕ) → pin_of g (Set j) ≡ Some r → (m : Launch) → goes_to j m ≡ true → IsTrue (writes_pin g r m)
    wrote j r h m t = writes_from g r m (ap (pin_of g) (goes_from g j m t) ∙ h)

    pinned_input : (c : ℕ) → is_safe g c ≡ false → (i : InputClass) → Contains g.inputs i → i.class ≡ c → IsPin g i.reg
    pinned_input c f i h e =
        elim (cases_Bool (is_pin g i.reg)) [
          | inl t ↦ pin-is g i.reg t
          | inr n ↦ absurd (false≢true (sym f ∙ some_in (λ i. (i.class == c) && not (is_pin g i.reg)) g.inputs i h (and_from (i.class == c) (not (is_pin g i.reg)) (eq-eqb i.class c e) (not_from_false (is_pin g i.reg) n))))
        ]

    -- where no launch writes the register of an input of the class, it isn't lost
    input_kept : (c : ℕ) → is_safe g c ≡ false → HasInput g c (IsUnwritten g ls) → list_any (is_lost g c k) X ≡ true
    input_kept c f (n, i, lt, e, (same, unwritten)) =
        let p = pin_set i.reg (pinned_input c f i (n, lt, e) same) in
        let v : Overwritten = record { set = p.0; cycle = k } in
        let has : HasInput g c (λ q. q ≡ i.reg) = any_from (λ i'. (i'.class ≡ c) × (i'.reg ≡ i.reg)) g.inputs i (n, lt, e) (same, refl) in
        let takes : takes_input g c p.0 ≡ true = ap (λ o. option_map_or (is_input_at g c) o false) p.1 ∙ at-from g c i.reg has in
        some_in (is_lost g c k) X v
        (kept v (over-in g table k p.0 k (overwriting_set p.0 i.reg p.1 (register-from g c i.reg has)) (omega arith))
        (λ w. All-contains (λ m. ¬ IsTrue (writes_pin g i.reg m)) ls w.1 unwritten (w.0, w.2, w.3) (wrote p.0 i.reg p.1 w.1 w.4.0)))
        (and_from (takes_input g c p.0) (k == k) takes (eq-eqb k k refl))

    no_pin : (o : Option ℕ) → is_some o ≡ false → o ≡ None
    no_pin None n = refl
    no_pin (Some r) n = absurd (false≢true (sym n))

    in_register : (s : SetClass) (j : ℕ) → is_memory_name s.name ≡ false → is_some s.pin ≡ false → IsReached g ls j s → IsInSomeRegister g ls s.class
    in_register s j nm np (inl m) = absurd (false≢true (sym nm ∙ m))
    in_register s j nm np (inr h) = subst (IsWhereWanted g ls j s) (no_pin s.pin np) h

    -- in no cycle there is no launch
    at_once : (c : ℕ) → k ≡ 0 → is_zero_class g c ≡ false → IsInSomeRegister g ls c → HasInput g c (IsUnwritten g ls)
    at_once c e nz (inl i) = i
    at_once c e nz (inr (inl z)) = absurd (false≢true (sym nz ∙ zero-from g c z))
    at_once c e nz (inr (inr (j, l, lt, at, h))) = (let early : l.cycle < k = (placed l (into l (j, lt, at))).1 in absurd (omega arith))

    last_says : (s : SetClass) → Contains g.sets s → IsLastNeeded g k xs needed X s
    last_says s (j, lt, at) t =
        let p = and_parts (is_made_target g s) (is_pooled g xs s.class) t in
        let m = and_parts (not (is_memory_name s.name)) (not (is_some s.pin) && (not (is_safe g s.class) && not (is_zero_class g s.class))) p.0 in
        let q = and_parts (not (is_some s.pin)) (not (is_safe g s.class) && not (is_zero_class g s.class)) m.1 in
        let r = and_parts (not (is_safe g s.class)) (not (is_zero_class g s.class)) q.1 in
        let unsafe : is_safe g s.class ≡ false = not-true (is_safe g s.class) r.0 in
        let found : Bool = is_some (input_where g (is_intact g ls None) s.class) in
        elim (cases_Bool found) [
          | inl y ↦ or_right (list_any (is_need_at s.class (k - 1)) needed) (list_any (is_lost g s.class k) X) (input_kept s.class unsafe ((has_input_is g ls None s.class found refl).0 y))
          | inr n ↦ elim (cases_eq k 0) [
            | inl e ↦
                (let there = in_register s j (not-true (is_memory_name s.name) m.0) (not-true (is_some s.pin) q.0) (reached j s (slice_get-get_or g.sets j s lt ∙ ap Some at)) in
                absurd (false≢true (sym n ∙ (has_input_is g ls None s.class found refl).1 (at_once s.class e (not-true (is_zero_class g s.class) r.1) there))))
            | inr ne ↦
                (let unpinned : list_any (is_unpinned_of s.class) g.sets ≡ true = some_in (is_unpinned_of s.class) g.sets s (j, lt, at) (and_from (s.class == s.class) (not (is_memory_name s.name) && not (is_some s.pin)) (eq-eqb s.class s.class refl) (and_from (not (is_memory_name s.name)) (not (is_some s.pin)) m.0 q.0)) in
                let wanted : is_wanted g ls s.class ≡ true = and_from (list_any (is_unpinned_of s.class) g.sets) (not (is_zero_class g s.class) && not found) unpinned (and_from (not (is_zero_class g s.class)) (not found) r.1 (not_from_false found n)) in
                or_left (list_any (is_need_at s.class (k - 1)) needed) (list_any (is_lost g s.class k) X)
                (need_in s.class (k - 1) p.1 (omega arith) (or_right (is_read_from g ls (k - 1) s.class) (is_wanted g ls s.class) wanted)))
          ]
        ]

    -- ---- what is held

    hold_in : (l : Launch) → Contains S l → (t : ℕ) → l.cycle ≤ t → t < k → holds g Live ls t l ≡ true → list_any (is_hold_at l.slot l.cycle t) held_on ≡ true
    hold_in l h t le lt held =
        let ok = placed l h in
        let there : Hold = hold_at l.slot l.cycle t in
        some_in (is_hold_at l.slot l.cycle t) held_on there
        (filter-in holding_now (all_holds table k) there (holds-in table k l.slot l.cycle t ok.0 le lt)
        (some_in (holding there) ls l (out l h) (and_from ((l.slot == l.slot) && (l.cycle == l.cycle)) (holds g Live ls t l) (and_from (l.slot == l.slot) (l.cycle == l.cycle) (eq-eqb l.slot l.slot refl) (eq-eqb l.cycle l.cycle refl)) held)))
        (and_from (l.slot == l.slot) ((l.cycle == l.cycle) && (t == t)) (eq-eqb l.slot l.slot refl) (and_from (l.cycle == l.cycle) (t == t) (eq-eqb l.cycle l.cycle refl) (eq-eqb t t refl)))

    own_says : (l : Launch) → Contains S l → HoldsOwn g k xs held_on l
    own_says l h takes = hold_in l h l.cycle (omega arith) (placed l h).1 (holds_own g ls l l.cycle takes refl)

    on_says : (l : Launch) → Contains S l → HoldsOn g k xs unneeded held_on l
    on_says l h takes =
        let c : ℕ = class_at g l.row in
        All-from_members (HoldsAt g k xs unneeded held_on l) (range_with_len (l.cycle + 1) (k - (l.cycle + 1))) (λ t ht.
        let b = range-out (l.cycle + 1) (k - (l.cycle + 1)) t ht in
        let from : l.cycle + 1 ≤ t = b.0 in
        let to : t < l.cycle + 1 + (k - (l.cycle + 1)) = b.1 in
        let early : l.cycle < k = (placed l h).1 in
        let lt : t < k = omega arith in
        elim (cases_Bool (is_needed g ls t c)) [
          | inl y ↦ or_right (list_any (is_need_at c t) unneeded) (list_any (is_hold_at l.slot l.cycle t) held_on) (hold_in l h t (omega arith) lt (holds_later g ls l t takes (omega arith) y))
          | inr n ↦ or_left (list_any (is_need_at c t) unneeded) (list_any (is_hold_at l.slot l.cycle t) held_on) (need_out c t (pooled-by g 0 launches l (listed l h) takes) lt n)
        ])

    pub live_says : SaysLive g k xs S needed unneeded held_on X
    live_says = record {
      needs = All-from_members (NeedsOf g k xs needed) S needs_say;
      earlier = All-from_members (WasNeeded g k xs needed) needed earlier_says;
      last = All-from_members (IsLastNeeded g k xs needed X) g.sets last_says;
      own = All-from_members (HoldsOwn g k xs held_on) S own_says;
      on = All-from_members (HoldsOn g k xs unneeded held_on) S on_says;
    }

    -- ---- how many

    same_hold : (a b : Hold) → a.slot ≡ b.slot → a.start ≡ b.start → a.cycle ≡ b.cycle → a ≡ b
    same_hold a b p q r =
        let x : a ≡ record { slot = b.slot; start = a.start; cycle = a.cycle } = ap (λ s. record { slot = s; start = a.start; cycle = a.cycle }) p in
        let y : record { slot = b.slot; start = a.start; cycle = a.cycle } ≡ record { slot = b.slot; start = b.start; cycle = a.cycle } = ap (λ s. record { slot = b.slot; start = s; cycle = a.cycle }) q in
        let z : record { slot = b.slot; start = b.start; cycle = a.cycle } ≡ b = ap (λ t. record { slot = b.slot; start = b.start; cycle = t }) r in
        x ∙ y ∙ z

    by_launch : (t : ℕ) (l : Launch) → count_by (λ h. (h.cycle == t) && holding h l) held_on ≤ cond {A = ℕ} (holds g Live ls t l) 1 0
    by_launch t l =
        elim (cases_Bool (holds g Live ls t l)) [
          | inl y ↦
              (let z : cond {A = ℕ} (holds g Live ls t l) 1 0 ≡ 1 = ap (λ b. cond {A = ℕ} b 1 0) y in
              let few = count-one (λ h. (h.cycle == t) && holding h l) held_on (λ i j d lt len p q.
              let a = get_or held_on i d in
              let b = get_or held_on j d in
              let pa = and_parts (a.cycle == t) (holding a l) p in
              let pb = and_parts (b.cycle == t) (holding b l) q in
              let qa = and_parts (a.slot == l.slot) (a.start == l.cycle) (and_parts ((a.slot == l.slot) && (a.start == l.cycle)) (holds g Live ls a.cycle l) pa.1).0 in
              let qb = and_parts (b.slot == l.slot) (b.start == l.cycle) (and_parts ((b.slot == l.slot) && (b.start == l.cycle)) (holds g Live ls b.cycle l) pb.1).0 in
              let same : a ≡ b = same_hold a b (eqb-true a.slot l.slot qa.0 ∙ sym (eqb-true b.slot l.slot qb.0)) (eqb-true a.start l.cycle qa.1 ∙ sym (eqb-true b.start l.cycle qb.1)) (eqb-true a.cycle t pa.0 ∙ sym (eqb-true b.cycle t pb.0)) in
              twice held_on (filter-once holding_now (all_holds table k) (holds-once table k)) i j d lt len same) in
              omega arith)
          | inr f ↦
              (let z = count-none (λ h. (h.cycle == t) && holding h l) held_on (λ i d lt p.
              let a = get_or held_on i d in
              let pa = and_parts (a.cycle == t) (holding a l) p in
              let held = (and_parts ((a.slot == l.slot) && (a.start == l.cycle)) (holds g Live ls a.cycle l) pa.1).1 in
              false≢true (sym f ∙ subst (λ t. holds g Live ls t l ≡ true) (eqb-true a.cycle t pa.0) held)) in
              omega arith)
        ]

    pub live_few : (t : ℕ) → t < k → count_by (λ (h : Hold). h.cycle == t) held_on ≤ length g.pool
    live_few t lt =
        let a = count-by-places (λ (h : Hold). h.cycle == t) (λ (l : Launch) (h : Hold). holding h l) ls held_on (All-from_members (λ h. (h.cycle == t) ≡ true → list_any (λ l. holding h l) ls ≡ true) held_on (λ h c e. (filter-out holding_now (all_holds table k) h c).1)) in
        let b = sum_by-le-sum_by (λ l. count_by (λ h. (h.cycle == t) && holding h l) held_on) (λ l. cond {A = ℕ} (holds g Live ls t l) 1 0) ls (by_launch t) in
        let c = room t lt in
        omega arith
