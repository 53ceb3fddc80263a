-- Launches of which the families of cycles, slots and values hold keep the rules, where sets may have pins.
use Rattle.std.proofs.Common.{◌≡◌, ℕ, ◌+◌, ◌<◌, ◌≤◌, true, false, not, List, length, get_or, refl, sym, ap, ◌∙◌, subst, arith, inl, inr, ◌⊎◌, Option, Some, None}
use Rattle.std.specs.Prelude.{◌||◌, ◌&&◌, ◌==◌, nat_le, is_some, nat_lt, IsTrue, Any, Contains, slice_get, if◌then◌else◌}
use Rattle.std.specs.Option.{option_map_or}
use Rattle.std.specs.List.{All, AllPairs, list_any, count_by}
use Rattle.std.proofs.lemmas.Bool.Decides.{Decides-ltb}
use Rattle.std.proofs.lemmas.Option.{none-some}
use Rattle.std.proofs.lemmas.Bool.{false≢true, cases_Bool, eqb-true, leb-true, eq-eqb, not-true, and_parts, and_from, or_cases, not_from_false}
use Rattle.std.proofs.lemmas.List.Elements.{All-weaker, All-contains, Contains-get_or}
use Rattle.machine_table.specs.Tables.{cluster_of}
use Rattle.graph_meaning.specs.Graphs.{is_memory_name, is_zero_class, is_input_register, HaveOwnPins}
use Rattle.schedule_meaning.specs.Launches.{operands_at, ready_in, IsFree, IsZero, HasInput, IsUnwritten, IsReadable, Gives, gives, pin_of, writes_pin, goes_to, overwrites, spoils, collides, reads_until}
use Rattle.schedule_meaning.specs.Fits.{CanLaunch, Collide, CanRead, EndsBy}
use Rattle.machine_table.specs.declared.tables.Table.{Table}
use Rattle.graph_meaning.specs.declared.graphs.LaunchGraph.{LaunchGraph}
use Rattle.graph_meaning.specs.declared.graphs.SetClass.{SetClass}
use Rattle.schedule_meaning.specs.declared.schedules.Operand.{Operand}
use Rattle.schedule_meaning.specs.declared.schedules.To.{To}
use Rattle.schedule_meaning.specs.declared.schedules.To.TheVariants.{Pool, Set}
use Rattle.schedule_meaning.specs.declared.schedules.Allocation.{Allocation}
use Rattle.schedule_meaning.specs.declared.schedules.Launch.{Launch}
use Rattle.schedule_meaning.proofs.Pins.{pinned_from, written_from, pin_from, from_goes, same_pin}
use Rattle.cycle_encoding.specs.declared.seen.Seen.{Seen}
use Rattle.cycle_encoding.specs.Families.{is_at, is_free, is_seen, makes}
use Rattle.cycle_encoding.specs.Variables.{is_safe, is_overwriting, Overwritten}
use Rattle.cycle_encoding.specs.Families.{is_made, is_made_target, is_input_at, takes_input, reads_own, is_needed, is_lost}
use Rattle.cycle_encoding.specs.CycleRules.{KeepsCycleRules, IsFreeReached, ArePinsKept, MayGo}
use Rattle.cycle_encoding.proofs.Tests.{two_at, same_at, All-from_filter, some_of, any_from, zero-is, free-is, gives-is}
use Rattle.cycle_encoding.proofs.PinnedTests.{safe-is, at-is, register-from}
use Rattle.cycle_encoding.proofs.Says.{SaysPinnedCycles}
use Rattle.cycle_encoding.proofs.Lists.{IsListed}

module _ (g : LaunchGraph) (table : Table) (allocation : Allocation) (k : ℕ) (S : List Launch) (listed : All (IsListed g table allocation k) S) where
  -- ---- slots

  pub apart : ((s t : ℕ) → s < length table.slots → t < k → count_by (is_at s t) S ≤ 1) → AllPairs (λ l m. ¬ Collide l m) S
  apart few i j d lt len c =
      let a = get_or S i d in
      let b = get_or S j d in
      let la : i < length S = omega arith in
      let ok : IsListed g table allocation k a = listed i d la in
      let pa : is_at a.slot a.cycle a ≡ true = and_from (a.slot == a.slot) (a.cycle == a.cycle) (eq-eqb a.slot a.slot refl) (eq-eqb a.cycle a.cycle refl) in
      let pb : is_at a.slot a.cycle b ≡ true = and_from (b.slot == a.slot) (b.cycle == a.cycle) (eq-eqb b.slot a.slot (sym c.1)) (eq-eqb b.cycle a.cycle (sym c.0)) in
      let two = two_at (is_at a.slot a.cycle) S i j d lt len pa pb in
      let one = few a.slot a.cycle ok.slot ok.early in
      absurd (omega arith)

  -- ---- what is overwritten

  module _ (own : HaveOwnPins g.sets) (V H : List Overwritten) (pins : ArePinsKept g k S V)
      (clash : (v : Overwritten) → Contains V v → Contains H v → ⊥) where
    set_same : (i j : ℕ) → Set i ≡ Set j → i ≡ j
    set_same i j e = cc

    -- the set of this number, where it has this pin
    set_of : (j r : ℕ) → pin_of g (Set j) ≡ Some r → (s : SetClass) × (slice_get g.sets j ≡ Some s) × (s.pin ≡ Some r)
    set_of j r h =
        let p = pinned_from g (Set j) r h in
        (p.1, ap (slice_get g.sets) (set_same j p.0 p.2) ∙ p.3, p.4)

    over_here : (j r : ℕ) → pin_of g (Set j) ≡ Some r → is_input_register g r ≡ true → is_overwriting g j ≡ true
    over_here j r h i = ap (λ o. option_map_or (is_input_register g) o false) h ∙ i

    -- what writes the pin goes to its set
    goes_there : (j r : ℕ) → pin_of g (Set j) ≡ Some r → (m : Launch) → IsTrue (writes_pin g r m) → goes_to j m ≡ true
    goes_there j r h m wrote =
        let s = set_of j r h in
        let q = pinned_from g m.to r (written_from g r m wrote) in
        from_goes g j m (q.2 ∙ ap Set (same_pin g own q.0 j r q.1 s.0 q.3 s.1 q.4 s.2))

    -- what isn't overwritten below a cycle was written by no launch below it
    not_lost : (h : Overwritten) → Contains H h → is_overwriting g h.set ≡ true → h.cycle ≤ k → (l : Launch) → Contains S l → goes_to h.set l ≡ true → l.cycle < h.cycle → ⊥
    not_lost h hh hj le l hl t lt = clash h (pins.over h hj le (any_from (λ l. IsTrue (goes_to h.set l) × (l.cycle < h.cycle)) S l hl (t, lt))) hh

    -- an input of the class whose register no launch writes below the cycle
    abbrev IsKeptBelow : ℕ → ℕ → Type 0
    IsKeptBelow c t = HasInput g c (λ r. (m : Launch) → Contains S m → IsTrue (writes_pin g r m) → m.cycle < t → ⊥)

    takes_in : (c j : ℕ) → takes_input g c j ≡ true → (r : ℕ) × (pin_of g (Set j) ≡ Some r) × (is_input_at g c r ≡ true)
    takes_in c j h = by (pin_of g (Set j)) h
      where
        by : (o : Option ℕ) → option_map_or (is_input_at g c) o false ≡ true → (r : ℕ) × (o ≡ Some r) × (is_input_at g c r ≡ true)
        by None h = absurd (false≢true h)
        by (Some r) h = (r, refl, h)

    kept_from : (c t : ℕ) → t ≤ k → list_any (is_lost g c t) H ≡ true → IsKeptBelow c t
    kept_from c t le h =
        let v = some_of (is_lost g c t) H h in
        let p = and_parts (takes_input g c v.0.set) (v.0.cycle == t) v.2 in
        let at : v.0.cycle ≡ t = eqb-true v.0.cycle t p.1 in
        let w = takes_in c v.0.set p.0 in
        let i = at-is g c w.0 w.2 in (
          i.0,
          i.1,
          i.2,
          i.3,
          (
            i.4.0,
            λ m hm wrote lt.
                not_lost v.0 v.1 (over_here v.0.set w.0 w.1 (register-from g c w.0 i)) (omega arith) m hm
                (goes_there v.0.set w.0 w.1 m (subst (λ r. IsTrue (writes_pin g r m)) i.4.1 wrote)) (omega arith),
          ),
        )

    -- ---- values

    -- a safe class has an input whose register nothing writes
    safe_kept : (c t : ℕ) → is_safe g c ≡ true → IsKeptBelow c t
    safe_kept c t h =
        let i = safe-is g c h in
        (i.0, i.1, i.2, i.3, (i.4.0, λ m hm wrote lt. i.4.1 (pin_from g i.1.reg m wrote)))

    module _ (D : List Seen) (says : SaysPinnedCycles g table k S D H) where
      seen_read : (c : ℕ) (l : Launch) → list_any (is_seen c (cluster_of table l.slot) l.cycle) D ≡ true → IsReadable g table S l c
      seen_read c l h =
          let n : ℕ = cluster_of table l.slot in
          let t : ℕ = l.cycle in
          let d = some_of (is_seen c n t) D h in
          let p = and_parts (d.0.class == c) ((d.0.cluster == n) && (d.0.cycle == t)) d.2 in
          let q = and_parts (d.0.cluster == n) (d.0.cycle == t) p.1 in
          let m = some_of (makes g table d.0) S (All-contains (λ d. list_any (makes g table d) S ≡ true) D d.0 says.seen d.1) in
          let r = and_parts (gives g d.0.class m.0) (nat_le (ready_in g table d.0.cluster m.0) d.0.cycle) m.2 in
          let ec : d.0.class ≡ c = eqb-true d.0.class c p.0 in
          let en : d.0.cluster ≡ n = eqb-true d.0.cluster n q.0 in
          let et : d.0.cycle ≡ t = eqb-true d.0.cycle t q.1 in
          let gave : Gives g c m.0 = subst (λ c. Gives g c m.0) ec (gives-is g d.0.class m.0 r.0) in
          let ready : ready_in g table n m.0 ≤ t = subst (λ t. ready_in g table n m.0 ≤ t) et (subst (λ n. ready_in g table n m.0 ≤ d.0.cycle) en (leb-true (ready_in g table d.0.cluster m.0) d.0.cycle r.1)) in
          inr (any_from (λ m. Gives g c m × (ready_in g table n m ≤ t)) S m.0 m.1 (gave, ready))

      spoils_parts : (l m : Launch) (r : ℕ) → IsTrue (spoils g l r m) → IsTrue (writes_pin g r m) × (collides l m ≡ false) × (m.cycle < reads_until g l)
      spoils_parts l m r h =
          let p = and_parts (writes_pin g r m) (not (collides l m) && nat_lt m.cycle (reads_until g l)) h in
          let q = and_parts (not (collides l m)) (nat_lt m.cycle (reads_until g l)) p.1 in
          (p.0, not-true (collides l m) q.0, (Decides-ltb m.cycle (reads_until g l)).0 q.1)

      kept_read : (c : ℕ) (l : Launch) → IsKeptBelow c (reads_until g l) → IsReadable g table S l c
      kept_read c l i =
          inl (i.0, i.1, i.2, i.3, (i.4.0, λ j d lt sp. (let p = spoils_parts l (get_or S j d) i.1.reg sp in i.4.1 (get_or S j d) (Contains-get_or S j d lt) p.0 p.2)))

      itself_collides : (l m : Launch) → m ≡ l → collides l m ≡ true
      itself_collides l m e = and_from (l.cycle == m.cycle) (l.slot == m.slot) (eq-eqb l.cycle m.cycle (ap (λ (x : Launch). x.cycle) (sym e))) (eq-eqb l.slot m.slot (ap (λ (x : Launch). x.slot) (sym e)))

      -- the register that the launch itself overwrites is written by no other
      own_by : (l : Launch) → Contains S l → (o : Operand) (to : To) → l.to ≡ to → (q : Option ℕ) → pin_of g to ≡ q → option_map_or (is_input_at g o.class) q false ≡ true → IsReadable g table S l o.class
      own_by l hl o to at None e h = absurd (false≢true h)
      own_by l hl o Pool at (Some r) e h = absurd (none-some r e)
      own_by l hl o (Set j) at (Some r) e h =
          let i = at-is g o.class r h in
          inl (
            i.0,
            i.1,
            i.2,
            i.3,
            (
              i.4.0,
              λ n d lt sp. (
                  let m : Launch = get_or S n d in
                  let p = spoils_parts l m i.1.reg sp in
                  let goes : goes_to j m ≡ true = goes_there j r e m (subst (λ r. IsTrue (writes_pin g r m)) i.4.1 p.0) in
                  let same : m ≡ l = same_at (goes_to j) S (pins.few j r e) m l (Contains-get_or S n d lt) goes hl (from_goes g j l at) in
                  false≢true (sym p.1 ∙ itself_collides l m same)),
            ),
          )

      own_read : (l : Launch) → Contains S l → (o : Operand) → reads_own g l o ≡ true → IsReadable g table S l o.class
      own_read l hl o h = own_by l hl o l.to refl (pin_of g l.to) refl h

      read_until_low : (l : Launch) → IsListed g table allocation k l → reads_until g l ≤ k
      read_until_low l ok =
          elim (cases_Bool (overwrites g l)) [
            | inl t ↦ (let e : reads_until g l ≡ l.cycle + 1 = ap (λ b. if b then l.cycle + 1 else l.cycle) t in let b = ok.early in omega arith)
            | inr f ↦ (let e : reads_until g l ≡ l.cycle = ap (λ b. if b then l.cycle + 1 else l.cycle) f in let b = ok.early in omega arith)
          ]

      read_one : (l : Launch) → Contains S l → IsListed g table allocation k l → (o : Operand) → (is_needed g l o ≡ true → (list_any (is_seen o.class (cluster_of table l.slot) l.cycle) D || list_any (is_lost g o.class (reads_until g l)) H) ≡ true) → IsFree g o ⊎ IsReadable g table S l o.class
      read_one l hl ok o h =
          elim (cases_Bool (is_free g o)) [
            | inl f ↦ inl (free-is g o f)
            | inr n ↦ elim (cases_Bool (is_safe g o.class)) [
              | inl i ↦ inr (kept_read o.class l (safe_kept o.class (reads_until g l) i))
              | inr m ↦ elim (cases_Bool (reads_own g l o)) [
                | inl own ↦ inr (own_read l hl o own)
                | inr other ↦
                    (let made : is_made g o ≡ true = and_from (not (is_free g o)) (not (is_safe g o.class)) (not_from_false (is_free g o) n) (not_from_false (is_safe g o.class) m) in
                    elim (or_cases (list_any (is_seen o.class (cluster_of table l.slot) l.cycle) D) (list_any (is_lost g o.class (reads_until g l)) H) (h (and_from (is_made g o) (not (reads_own g l o)) made (not_from_false (reads_own g l o) other)))) [
                      | inl seen ↦ inr (seen_read o.class l seen)
                      | inr lost ↦ inr (kept_read o.class l (kept_from o.class (reads_until g l) (read_until_low l ok) lost))
                    ])
              ]
            ]
          ]

      reads : All (CanRead g table S) S
      reads i d lt =
          let l = get_or S i d in
          All-weaker (λ o. is_needed g l o ≡ true → (list_any (is_seen o.class (cluster_of table l.slot) l.cycle) D || list_any (is_lost g o.class (reads_until g l)) H) ≡ true) (λ o. IsFree g o ⊎ IsReadable g table S l o.class) (λ o h. read_one l (Contains-get_or S i d lt) (listed i d lt) o h) (operands_at g l.row)
          (All-from_filter (is_needed g l) (λ o. (list_any (is_seen o.class (cluster_of table l.slot) l.cycle) D || list_any (is_lost g o.class (reads_until g l)) H) ≡ true) (operands_at g l.row) (says.operands i d lt))

      kept_place : (c : ℕ) → IsKeptBelow c k → HasInput g c (IsUnwritten g S)
      kept_place c i = (i.0, i.1, i.2, i.3, (i.4.0, λ j d lt wrote. i.4.1 (get_or S j d) (Contains-get_or S j d lt) wrote (listed j d lt).early))

      -- a target without a pin
      reach_free : (s : SetClass) → is_memory_name s.name ≡ false → s.pin ≡ None → (is_made_target g s ≡ true → (list_any (gives g s.class) S || list_any (is_lost g s.class k) H) ≡ true) → HasInput g s.class (IsUnwritten g S) ⊎ (IsZero g s.class ⊎ Any (Gives g s.class) S)
      reach_free s a none h =
          elim (cases_Bool (is_safe g s.class)) [
            | inl i ↦ inl (kept_place s.class (safe_kept s.class k i))
            | inr b ↦ elim (cases_Bool (is_zero_class g s.class)) [
              | inl z ↦ inr (inl (zero-is g s.class z))
              | inr c ↦
                  (let made : is_made_target g s ≡ true = and_from (not (is_memory_name s.name)) (not (is_some s.pin) && (not (is_safe g s.class) && not (is_zero_class g s.class))) (not_from_false (is_memory_name s.name) a)
                  (and_from (not (is_some s.pin)) (not (is_safe g s.class) && not (is_zero_class g s.class)) (ap (λ o. not (is_some o)) none)
                  (and_from (not (is_safe g s.class)) (not (is_zero_class g s.class)) (not_from_false (is_safe g s.class) b) (not_from_false (is_zero_class g s.class) c))) in
                  elim (or_cases (list_any (gives g s.class) S) (list_any (is_lost g s.class k) H) (h made)) [
                    | inl given ↦ (let l = some_of (gives g s.class) S given in inr (inr (any_from (Gives g s.class) S l.0 l.1 (gives-is g s.class l.0 l.2))))
                    | inr lost ↦ inl (kept_place s.class (kept_from s.class k (omega arith) lost))
                  ])
            ]
          ]

      reach_one : (s : SetClass) → (is_made_target g s ≡ true → (list_any (gives g s.class) S || list_any (is_lost g s.class k) H) ≡ true) → IsFreeReached g S s
      reach_one s h none =
          elim (cases_Bool (is_memory_name s.name)) [
            | inl m ↦ inl m
            | inr a ↦ inr (reach_free s a none h)
          ]

      reached : All (IsFreeReached g S) g.sets
      reached =
          All-weaker (λ s. is_made_target g s ≡ true → (list_any (gives g s.class) S || list_any (is_lost g s.class k) H) ≡ true) (IsFreeReached g S) reach_one g.sets
          (All-from_filter (is_made_target g) (λ s. (list_any (gives g s.class) S || list_any (is_lost g s.class k) H) ≡ true) g.sets says.targets)

      pub keep_pinned_rules : ((s t : ℕ) → s < length table.slots → t < k → count_by (is_at s t) S ≤ 1) → KeepsCycleRules g table allocation k S
      keep_pinned_rules few = record {
        rows = All-weaker (IsListed g table allocation k) (CanLaunch g table) (λ l h. h.can) S listed;
        destinations = All-weaker (IsListed g table allocation k) (MayGo g allocation) (λ l h. h.goes) S listed;
        apart = apart few;
        operands = reads;
        in_time = All-weaker (IsListed g table allocation k) (EndsBy g table k) (λ l h. h.ends) S listed;
        targets = reached;
      }
