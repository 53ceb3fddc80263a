-- Launches of which the families of registers by live ranges hold keep at most as many registers as the pool has.
use Rattle.std.proofs.Common.{◌≡◌, ℕ, suc, zero, ◌+◌, ◌-◌, ◌<◌, ◌≤◌, Bool, true, false, not, cond, List, length, get_or, refl, sym, ap, ◌∙◌, subst, arith, inl, inr, Option, Some, None}
use Rattle.std.specs.Prelude.{◌&&◌, ◌==◌, nat_le, is_some, IsTrue, Contains, slice_get}
use Rattle.std.specs.Option.{option_map_or}
use Rattle.std.specs.List.{All, AllPairs, list_any, count_by, range_with_len}
use Rattle.std.proofs.lemmas.Bool.{false≢true, cases_Bool, eqb-true, ne_eqb, leb-true, and_parts, and_from, or_cases, not-true, not_from_false}
use Rattle.std.proofs.lemmas.List.Sums.{sum_by-le-sum_by}
use Rattle.std.proofs.lemmas.List.Elements.{All-contains, Contains-get_or}
use Rattle.graph_meaning.specs.Graphs.{HaveOwnPins, is_input_register, is_memory_name, is_zero_class}
use Rattle.graph_meaning.specs.declared.graphs.LaunchGraph.{LaunchGraph}
use Rattle.graph_meaning.specs.declared.graphs.SetClass.{SetClass}
use Rattle.schedule_meaning.specs.Launches.{class_at, goes_to, is_free, is_load, is_store, launches, overwrites, operands_at, pin_of, takes_pool, writes_pin, HasInput, IsUnwritten}
use Rattle.schedule_meaning.specs.Lifetimes.{holds, is_needed, is_operand_of, is_read_from, is_unpinned_of, is_wanted, reads_class}
use Rattle.schedule_meaning.specs.Readers.{input_where, is_intact}
use Rattle.schedule_meaning.specs.Fits.{Collide, HasRoom, MayLoadOver}
use Rattle.schedule_meaning.specs.declared.schedules.Allocation.{Allocation}
use Rattle.schedule_meaning.specs.declared.schedules.Allocation.TheVariants.{Block, Live}
use Rattle.schedule_meaning.specs.declared.schedules.To.TheVariants.{Set}
use Rattle.schedule_meaning.specs.declared.schedules.Launch.{Launch}
use Rattle.schedule_meaning.proofs.Inputs.{has_input_is}
use Rattle.schedule_meaning.proofs.LiveRanges.{holds_takes, holds_cases}
use Rattle.schedule_meaning.proofs.Pins.{pinned_from, written_from, pin_from, from_goes, same_pin}
use Rattle.cycle_encoding.specs.Families.{is_input_at, is_lost, is_made_target, takes_input}
use Rattle.cycle_encoding.specs.Variables.{is_overwriting, is_safe, Overwritten}
use Rattle.cycle_encoding.specs.CycleRules.{WasOverwritten}
use Rattle.cycle_encoding.proofs.Counting.{count-one, count-none, count-by-places}
use Rattle.cycle_encoding.proofs.Members.{range-in}
use Rattle.cycle_encoding.proofs.PinnedTests.{safe-is, at-is, register-from}
use Rattle.cycle_encoding.proofs.Tests.{any_from, some_of}
use Rattle.order_encoding.specs.LiveVariables.{Need, Hold, is_pooled}
use Rattle.order_encoding.specs.LiveFamilies.{is_need_at, is_hold_at, is_pooled_operand}
use Rattle.order_encoding.proofs.LiveSays.{HoldsAt, HoldsOn, HoldsOwn, IsAlone, IsLastNeeded, NeedsOf, SaysLive, WasNeeded}

module _ (g : LaunchGraph) (k : ℕ) (xs : List (ℕ × Launch)) (S : List Launch) (N M : List Need) (H : List Hold) (X V : List Overwritten) (says : SaysLive g k xs S N M H X)
    (known : (l : Launch) → Contains S l → takes_pool g l ≡ true → is_pooled g xs (class_at g l.row) ≡ true)
    (apart : (n : Need) → Contains N n → Contains M n → ⊥)
    (own : HaveOwnPins g.sets)
    (over : (v : Overwritten) → is_overwriting g v.set ≡ true → v.cycle ≤ k → WasOverwritten S v → Contains V v)
    (clash : (v : Overwritten) → Contains V v → Contains X v → ⊥)
    (below : All (λ l. l.cycle < k) S) where
  -- ---- from cycle to cycle

  same_need : (n : Need) (c t : ℕ) → n.class ≡ c → n.cycle ≡ t → n ≡ record { class = c; cycle = t }
  same_need n c t p q =
      let x : n ≡ record { class = c; cycle = n.cycle } = ap (λ c. record { class = c; cycle = n.cycle }) p in
      let y : record { class = c; cycle = n.cycle } ≡ record { class = c; cycle = t } = ap (λ t. record { class = c; cycle = t }) q in
      x ∙ y

  need_down : (c t d : ℕ) → list_any (is_need_at c (t + d)) N ≡ true → list_any (is_need_at c t) N ≡ true
  need_down c t zero h = (let e : t + 0 ≡ t = omega arith in subst (λ t. list_any (is_need_at c t) N ≡ true) e h)
  need_down c t (suc d) h =
      let n = some_of (is_need_at c (t + suc d)) N h in
      let p = and_parts (n.0.class == c) (n.0.cycle == t + suc d) n.2 in
      let ec : n.0.class ≡ c = eqb-true n.0.class c p.0 in
      let et : n.0.cycle ≡ t + suc d = eqb-true n.0.cycle (t + suc d) p.1 in
      let ne : (n.0.cycle == 0) ≡ false = ne_eqb n.0.cycle 0 (λ z. absurd (omega arith)) in
      let before = All-contains (WasNeeded g k xs N) N n.0 says.earlier n.1 (not_from_false (n.0.cycle == 0) ne) in
      let back : n.0.cycle - 1 ≡ t + d = omega arith in
      need_down c t d (subst (λ t. list_any (is_need_at c t) N ≡ true) back (subst (λ c. list_any (is_need_at c (n.0.cycle - 1)) N ≡ true) ec before))

  need_by : (c t u : ℕ) → t ≤ u → list_any (is_need_at c u) N ≡ true → list_any (is_need_at c t) N ≡ true
  need_by c t u le h = (let e : u ≡ t + (u - t) = omega arith in need_down c t (u - t) (subst (λ u. list_any (is_need_at c u) N ≡ true) e h))

  -- ---- what is read

  read_need : (c t : ℕ) → is_pooled g xs c ≡ true → is_read_from g S t c ≡ true → list_any (is_need_at c t) N ≡ true
  read_need c t pooled h =
      let m = some_of (λ l. nat_le t l.cycle && reads_class g c l) S h in
      let p = and_parts (nat_le t (m.0).cycle) (reads_class g c m.0) m.2 in
      let o = some_of (is_operand_of g c) (operands_at g (m.0).row) p.1 in
      let q = and_parts (o.0.class == c) (not (is_free g o.0)) o.2 in
      let ec : o.0.class ≡ c = eqb-true o.0.class c q.0 in
      let all : NeedsOf g k xs N m.0 = All-contains (NeedsOf g k xs N) S m.0 says.needs m.1 in
      let here = All-contains (λ o. is_pooled_operand g xs o ≡ true → list_any (is_need_at o.class (m.0).cycle) N ≡ true) (operands_at g (m.0).row) o.0 all o.1
      (and_from (not (is_free g o.0)) (is_pooled g xs o.0.class) q.1 (ap (is_pooled g xs) ec ∙ pooled)) in
      need_by c t (m.0).cycle (leb-true t (m.0).cycle p.0) (subst (λ c. list_any (is_need_at c (m.0).cycle) N ≡ true) ec here)

  -- ---- what is wanted at the end

  set_same : (i j : ℕ) → Set i ≡ Set j → i ≡ j
  set_same i j e = cc

  set_of : (j r : ℕ) → pin_of g (Set j) ≡ Some r → (s : SetClass) × (slice_get g.sets j ≡ Some s) × (s.pin ≡ Some r)
  set_of j r h =
      let p = pinned_from g (Set j) r h in
      (p.1, ap (slice_get g.sets) (set_same j p.0 p.2) ∙ p.3, p.4)

  goes_there : (j r : ℕ) → pin_of g (Set j) ≡ Some r → (m : Launch) → IsTrue (writes_pin g r m) → goes_to j m ≡ true
  goes_there j r h m wrote =
      let s = set_of j r h in
      let q = pinned_from g m.to r (written_from g r m wrote) in
      from_goes g j m (q.2 ∙ ap Set (same_pin g own q.0 j r q.1 s.0 q.3 s.1 q.4 s.2))

  takes_in : (c j : ℕ) → takes_input g c j ≡ true → (r : ℕ) × (pin_of g (Set j) ≡ Some r) × (is_input_at g c r ≡ true)
  takes_in c j h = by (pin_of g (Set j)) h
    where
      by : (o : Option ℕ) → option_map_or (is_input_at g c) o false ≡ true → (r : ℕ) × (o ≡ Some r) × (is_input_at g c r ≡ true)
      by None h = absurd (false≢true h)
      by (Some r) h = (r, refl, h)

  -- where a register of an input of the class was never overwritten, no launch writes it
  kept_input : (c : ℕ) → list_any (is_lost g c k) X ≡ true → HasInput g c (IsUnwritten g S)
  kept_input c h =
      let v = some_of (is_lost g c k) X h in
      let p = and_parts (takes_input g c v.0.set) (v.0.cycle == k) v.2 in
      let at : v.0.cycle ≡ k = eqb-true v.0.cycle k p.1 in
      let w = takes_in c v.0.set p.0 in
      let i = at-is g c w.0 w.2 in
      let here : is_overwriting g v.0.set ≡ true = ap (λ o. option_map_or (is_input_register g) o false) w.1 ∙ register-from g c w.0 i in (
        i.0,
        i.1,
        i.2,
        i.3,
        (
          i.4.0,
          λ j d lt wrote.
              let m = get_or S j d in
              let early : m.cycle < k = below j d lt in
              let goes = goes_there v.0.set w.0 w.1 m (subst (λ r. IsTrue (writes_pin g r m)) i.4.1 wrote) in
              clash v.0 (over v.0 here (omega arith) (any_from (λ l. IsTrue (goes_to v.0.set l) × (l.cycle < v.0.cycle)) S m (Contains-get_or S j d lt) (goes, omega arith))) v.1,
        ),
      )

  safe_input : (c : ℕ) → is_safe g c ≡ true → HasInput g c (IsUnwritten g S)
  safe_input c h =
      let i = safe-is g c h in
      (i.0, i.1, i.2, i.3, (i.4.0, λ j d lt wrote. i.4.1 (pin_from g i.1.reg (get_or S j d) wrote)))

  wanted_need : (c t : ℕ) → is_pooled g xs c ≡ true → t < k → is_wanted g S c ≡ true → list_any (is_need_at c t) N ≡ true
  wanted_need c t pooled lt h =
      let found : Bool = is_some (input_where g (is_intact g S None) c) in
      let p = and_parts (list_any (is_unpinned_of c) g.sets) (not (is_zero_class g c) && not found) h in
      let z = and_parts (not (is_zero_class g c)) (not found) p.1 in
      let none : HasInput g c (IsUnwritten g S) → ⊥ = λ i. false≢true (sym (not-true found z.1) ∙ (has_input_is g S None c found refl).1 i) in
      let s = some_of (is_unpinned_of c) g.sets p.0 in
      let q = and_parts (s.0.class == c) (not (is_memory_name s.0.name) && not (is_some s.0.pin)) s.2 in
      let ec : s.0.class ≡ c = eqb-true s.0.class c q.0 in
      let r = and_parts (not (is_memory_name s.0.name)) (not (is_some s.0.pin)) q.1 in
      let unsafe : is_safe g s.0.class ≡ false = elim (cases_Bool (is_safe g s.0.class)) [ inl y ↦ absurd (none (subst (λ c. HasInput g c (IsUnwritten g S)) ec (safe_input s.0.class y))) | inr n ↦ n ] in
      let nonzero : is_zero_class g s.0.class ≡ false = ap (is_zero_class g) ec ∙ not-true (is_zero_class g c) z.0 in
      let made : is_made_target g s.0 ≡ true =
      and_from (not (is_memory_name s.0.name)) (not (is_some s.0.pin) && (not (is_safe g s.0.class) && not (is_zero_class g s.0.class))) r.0
      (and_from (not (is_some s.0.pin)) (not (is_safe g s.0.class) && not (is_zero_class g s.0.class)) r.1
      (and_from (not (is_safe g s.0.class)) (not (is_zero_class g s.0.class)) (not_from_false (is_safe g s.0.class) unsafe) (not_from_false (is_zero_class g s.0.class) nonzero))) in
      let either = All-contains (IsLastNeeded g k xs N X) g.sets s.0 says.last s.1 (and_from (is_made_target g s.0) (is_pooled g xs s.0.class) made (ap (is_pooled g xs) ec ∙ pooled)) in
      elim (or_cases (list_any (is_need_at s.0.class (k - 1)) N) (list_any (is_lost g s.0.class k) X) either) [
        | inl n ↦ need_by c t (k - 1) (omega arith) (subst (λ c. list_any (is_need_at c (k - 1)) N ≡ true) ec n)
        | inr x ↦ absurd (none (subst (λ c. HasInput g c (IsUnwritten g S)) ec (kept_input s.0.class x)))
      ]

  needed_here : (c t : ℕ) → is_pooled g xs c ≡ true → t < k → is_needed g S t c ≡ true → list_any (is_need_at c t) N ≡ true
  needed_here c t pooled lt h =
      elim (or_cases (is_read_from g S t c) (is_wanted g S c) h) [
        | inl r ↦ read_need c t pooled r
        | inr w ↦ wanted_need c t pooled lt w
      ]

  -- ---- what is held

  hold_here : (l : Launch) → Contains S l → (t : ℕ) → t < k → holds g Live S t l ≡ true → list_any (is_hold_at l.slot l.cycle t) H ≡ true
  hold_here l hl t lt h =
      let takes = holds_takes g S Live t l h in
      elim (holds_cases g S t l h) [
        | inl same ↦ subst (λ t. list_any (is_hold_at l.slot l.cycle t) H ≡ true) same (All-contains (HoldsOwn g k xs H) S l says.own hl takes)
        | inr more ↦
            (let c : ℕ = class_at g l.row in
            let needed = needed_here c t (known l hl takes) lt more.1 in
            let early : l.cycle < t = more.0 in
            let at = All-contains (HoldsAt g k xs M H l) (range_with_len (l.cycle + 1) (k - (l.cycle + 1))) t (All-contains (HoldsOn g k xs M H) S l says.on hl takes) (range-in (l.cycle + 1) (k - (l.cycle + 1)) t (omega arith) (omega arith)) in
            elim (or_cases (list_any (is_need_at c t) M) (list_any (is_hold_at l.slot l.cycle t) H) at) [
              | inl away ↦
                  (let n = some_of (is_need_at c t) N needed in
                  let m = some_of (is_need_at c t) M away in
                  let p = and_parts (n.0.class == c) (n.0.cycle == t) n.2 in
                  let q = and_parts (m.0.class == c) (m.0.cycle == t) m.2 in
                  let same : n.0 ≡ m.0 = same_need n.0 c t (eqb-true n.0.class c p.0) (eqb-true n.0.cycle t p.1) ∙ sym (same_need m.0 c t (eqb-true m.0.class c q.0) (eqb-true m.0.cycle t q.1)) in
                  absurd (apart m.0 (subst (λ n. Contains N n) same n.1) m.1))
              | inr held ↦ held
            ])
      ]

  module _ (few : (t : ℕ) → t < k → count_by (λ (h : Hold). h.cycle == t) H ≤ length g.pool) (alone : AllPairs (λ l m. ¬ Collide l m) S) where
    abbrev takes : ℕ → Hold → Launch → Bool
    takes t h l = is_hold_at l.slot l.cycle t h

    by_hold : (t : ℕ) (h : Hold) → count_by (λ l. holds g Live S t l && takes t h l) S ≤ cond {A = ℕ} (h.cycle == t) 1 0
    by_hold t h =
        elim (cases_Bool (h.cycle == t)) [
          | inl y ↦
              (let z : cond {A = ℕ} (h.cycle == t) 1 0 ≡ 1 = ap (λ b. cond {A = ℕ} b 1 0) y in
              let one = count-one (λ l. holds g Live S t l && takes t h l) S (λ i j d lt len p q.
              let a = get_or S i d in
              let b = get_or S j d in
              let pa = and_parts (h.slot == a.slot) ((h.start == a.cycle) && (h.cycle == t)) (and_parts (holds g Live S t a) (takes t h a) p).1 in
              let pb = and_parts (h.slot == b.slot) ((h.start == b.cycle) && (h.cycle == t)) (and_parts (holds g Live S t b) (takes t h b) q).1 in
              let ca = and_parts (h.start == a.cycle) (h.cycle == t) pa.1 in
              let cb = and_parts (h.start == b.cycle) (h.cycle == t) pb.1 in
              alone i j d lt len (sym (eqb-true h.start a.cycle ca.0) ∙ eqb-true h.start b.cycle cb.0, sym (eqb-true h.slot a.slot pa.0) ∙ eqb-true h.slot b.slot pb.0)) in
              omega arith)
          | inr n ↦
              (let z = count-none (λ l. holds g Live S t l && takes t h l) S (λ i d lt p.
              let a = get_or S i d in
              let pa = and_parts (h.slot == a.slot) ((h.start == a.cycle) && (h.cycle == t)) (and_parts (holds g Live S t a) (takes t h a) p).1 in
              false≢true (sym n ∙ (and_parts (h.start == a.cycle) (h.cycle == t) pa.1).1)) in
              omega arith)
        ]

    pub live_room : HasRoom g Live k S
    live_room t lt =
        let a = count-by-places (holds g Live S t) (takes t) H S (λ i d len h. hold_here (get_or S i d) (Contains-get_or S i d len) t lt h) in
        let b = sum_by-le-sum_by (λ h. count_by (λ l. holds g Live S t l && takes t h l) S) (λ h. cond {A = ℕ} (h.cycle == t) 1 0) H (by_hold t) in
        let c = few t lt in
        omega arith

-- ---- loads that overwrite inputs: W are the cycles with a store, Z those without

module _ (g : LaunchGraph) (k : ℕ) (xs : List (ℕ × Launch)) (S : List Launch) (W Z : List ℕ) (apart : (t : ℕ) → Contains W t → Contains Z t → ⊥)
    (stored : All (λ l. launches g is_store l ≡ true → list_any (λ t. t == l.cycle) W ≡ true) S) (alone : All (IsAlone g k xs Z) S) where
  no_store : (l m : Launch) → Contains S l → Contains S m → IsTrue (launches g is_load l) → IsTrue (overwrites g l) → IsTrue (launches g is_store m) → m.cycle ≡ l.cycle → ⊥
  no_store l m hl hm load over store e =
      let w = some_of (λ t. t == m.cycle) W (All-contains (λ l. launches g is_store l ≡ true → list_any (λ t. t == l.cycle) W ≡ true) S m stored hm store) in
      let z = some_of (λ t. t == l.cycle) Z (All-contains (IsAlone g k xs Z) S l alone hl (and_from (launches g is_load l) (overwrites g l) load over)) in
      let same : w.0 ≡ z.0 = eqb-true w.0 m.cycle w.2 ∙ e ∙ sym (eqb-true z.0 l.cycle z.2) in
      apart z.0 (subst (λ t. Contains W t) same w.1) z.1

  by_allocation : (a : Allocation) (l : Launch) → a ≡ Live → All (λ m. IsTrue (launches g is_store m) → ¬ (m.cycle ≡ l.cycle)) S → MayLoadOver g a S l
  by_allocation Block l e h = absurd (let f : Block ≡ Live = e in cc)
  by_allocation Live l e h = h

  pub loads_may : (a : Allocation) (l : Launch) → Contains S l → IsTrue (launches g is_load l) → IsTrue (overwrites g l) → a ≡ Live → MayLoadOver g a S l
  loads_may a l hl load over e = by_allocation a l e (λ i d lt store same. no_store l (get_or S i d) hl (Contains-get_or S i d lt) load over store same)
