-- Launches that keep the rules do so without those that have no variables in the pinned encoding.
use Rattle.std.proofs.Common.{◌≡◌, ℕ, suc, zero, ◌+◌, ◌<◌, ◌≤◌, Bool, true, false, not, List, get_or, refl, sym, ap, ◌∙◌, subst, arith, inl, inr, ◌⊎◌, Option, Some}
use Rattle.std.specs.Prelude.{◌&&◌, ◌==◌, nat_lt, IsTrue, Any, Contains, Decides, unwrap_or, option_map}
use Rattle.std.specs.Option.{option_map_or}
use Rattle.std.specs.List.{All, AllPairs, filter}
use Rattle.std.proofs.lemmas.Bool.{false≢true, cases_Bool, eqb-true, eq-eqb, and_parts, and_from, not-true}
use Rattle.std.proofs.lemmas.Option.{same_Some, get_or_from_slice_get}
use Rattle.std.proofs.lemmas.List.Elements.{All-filter, All-contains}
use Rattle.machine_table.specs.Tables.{IsTable, IsUse, use_of, latency_of, cluster_of, MayUse}
use Rattle.machine_table.specs.InstrOrder.{kind_number}
use Rattle.graph_meaning.specs.Graphs.{is_memory_name, IsPin}
use Rattle.graph_meaning.specs.WellFormed.{IsLaunchGraph}
use Rattle.schedule_meaning.specs.Launches.{instr_at, launches, is_store, is_branch, gives_word, class_at, memory_class_at, operands_at, ready_in, set_at, writes_pin, spoils, collides, reads_until, HasInput, IsUnwritten, IsZero, IsFree, IsReadable, IsClassOfInput, Gives}
use Rattle.schedule_meaning.specs.Fits.{CanLaunch, Collide, CanRead, EndsBy}
use Rattle.machine_table.specs.declared.tables.Table.{Table}
use Rattle.machine_table.specs.declared.tables.Use.{Use}
use Rattle.machine_table.specs.declared.tables.InstrKind.{InstrKind}
use Rattle.machine_table.specs.declared.tables.InstrKind.TheVariants.{Operate, Lda, Ldah, Load, Store, Beq}
use Rattle.graph_meaning.specs.declared.graphs.LaunchGraph.{LaunchGraph}
use Rattle.graph_meaning.specs.declared.graphs.SetClass.{SetClass}
use Rattle.schedule_meaning.specs.declared.schedules.Operand.{Operand}
use Rattle.schedule_meaning.specs.declared.schedules.To.TheVariants.{Pool}
use Rattle.schedule_meaning.specs.declared.schedules.Allocation.{Allocation}
use Rattle.schedule_meaning.specs.declared.schedules.Launch.{Launch}
use Rattle.schedule_meaning.proofs.Rules.{in_list}
use Rattle.schedule_meaning.proofs.Pins.{pin_from, pinned_from}
use Rattle.cycle_encoding.specs.Families.{is_at, is_free}
use Rattle.cycle_encoding.specs.CycleFormula.{Listed}
use Rattle.cycle_encoding.specs.Variables.{all_launches, made_classes, is_safe}
use Rattle.cycle_encoding.specs.Families.{is_made}
use Rattle.cycle_encoding.specs.Narrow.{IsSafe, Lacks, Wanted, HasCome, come, CanStart, HasVariable, IsPinnedList, accesses, delay_of}
use Rattle.cycle_encoding.specs.Narrow.Awaits.{word, memory}
use Rattle.cycle_encoding.specs.Narrow.Wanted.{target, pinned, guard, store, operand}
use Rattle.cycle_encoding.specs.CycleRules.{KeepsCycleRules, FindsMemory, IsFreeReached, LeavesBelow, MayGo}
use Rattle.cycle_encoding.proofs.Tests.{two_at, any_from, free-is, free-from}
use Rattle.cycle_encoding.proofs.PinnedTests.{safe-is, safe-from}
use Rattle.cycle_encoding.proofs.Counting.{count-one}
use Rattle.cycle_encoding.proofs.MadeLists.{count_less}
use Rattle.cycle_encoding.proofs.Members.{NoTwice, filter-in, filter-out, filter-once, find-out, All-from_members}
use Rattle.cycle_encoding.proofs.RowFacts.{some-and, test-some}
use Rattle.cycle_encoding.proofs.LaunchLists.{cluster-in, seen-in}
use Rattle.cycle_encoding.proofs.Lists.{pinned-listed, listed-in, listed-one, launches-once, goes_of}
use Rattle.cycle_encoding.proofs.Complete.{ServesPins, pinned_made_class}

module _ (g : LaunchGraph) (table : Table) (allocation : Allocation) (k : ℕ) (is_table : IsTable table) (ls : List Launch)
    (rules : KeepsCycleRules g table allocation k ls) (finds : FindsMemory g ls) where
  use_latency : (l : Launch) (i : InstrKind) (u : Use) → instr_at g l.row ≡ Some i → use_of table i ≡ Some u → unwrap_or (latency_of table (unwrap_or (instr_at g l.row) Beq)) 0 ≡ u.latency
  use_latency l i u ei eu = ap (λ o. unwrap_or (option_map (λ (u : Use). u.latency) (use_of table (unwrap_or o Beq))) 0) ei ∙ ap (λ o. unwrap_or (option_map (λ (u : Use). u.latency) o) 0) eu

  -- the use of a launch
  use_at : (l : Launch) → Contains ls l
      → (i : InstrKind) × (u : Use) × (instr_at g l.row ≡ Some i) × (use_of table i ≡ Some u) × (1 ≤ u.latency)
  use_at l here =
      let can =
      some-and (instr_at g l.row) (λ i. MayUse table i l.slot) (All-contains (CanLaunch g table) ls l rules.rows here) in
      let u = some-and (use_of table can.0) (λ u. Contains u.slots l.slot) can.2 in
      let known : IsUse table u.0 =
      All-contains (IsUse table) table.uses u.0 is_table.uses
      (find-out (λ (u : Use). kind_number u.instr == kind_number can.0) table.uses u.0 u.1).0 in
      (can.0, u.0, can.1, u.1, known.latency.0)

  word_delay : (i : InstrKind) (u : Use) → gives_word i ≡ true → delay_of i u ≡ Some u.latency
  word_delay (Store x) u h = absurd (false≢true h)
  word_delay Beq u h = absurd (false≢true h)
  word_delay (Operate x) u h = refl
  word_delay Lda u h = refl
  word_delay Ldah u h = refl
  word_delay (Load x) u h = refl

  store_delay : (i : InstrKind) (u : Use) → is_store i ≡ true → delay_of i u ≡ Some 1
  store_delay (Store x) u h = refl
  store_delay Beq u h = absurd (false≢true h)
  store_delay (Operate x) u h = absurd (false≢true h)
  store_delay Lda u h = absurd (false≢true h)
  store_delay Ldah u h = absurd (false≢true h)
  store_delay (Load x) u h = absurd (false≢true h)

  -- the class of an operand that is needed has come, where the launches before can start
  come_from : (l : Launch)
      → ((m : Launch) → Contains ls m → m.cycle < l.cycle → CanStart g table allocation m.row m.cycle)
      → (o : Operand) → Lacks g (IsClassOfInput g) l.row o → IsFree g o ⊎ IsReadable g table ls l o.class
      → HasCome g table allocation o.class l.cycle
  come_from l before o need (inl f) = absurd (need.free f)
  come_from l before o need (inr (inl (n, i, lt, e, (c, u)))) = absurd (need.there (n, i, lt, e, c))
  come_from l before o need (inr (inr (j, m, lt, e, (gave, ready)))) =
      let here : Contains ls m = (j, lt, e) in
      let gives = test-some (instr_at g m.row) gives_word gave.0 in
      let u = use_at m here in
      let latency = use_latency m u.0 u.1 u.2 u.3 in
      let least = u.4 in
      let same : Some gives.0 ≡ Some u.0 = sym gives.1 ∙ u.2 in
      let word : gives_word u.0 ≡ true = (let q : gives.0 ≡ u.0 = cc in ap gives_word (sym q) ∙ gives.2) in
      let until : m.cycle + (u.1).latency ≤ l.cycle = omega arith in
      subst (λ c. HasCome g table allocation c l.cycle) gave.1
      (come m.row m.cycle l.cycle (u.1).latency u.0 u.1 u.2 u.3 (word_delay u.0 u.1 word) until
      (before m here (omega arith)))

  -- and so has that of the memory which it reads
  memory_from : (l : Launch)
      → ((m : Launch) → Contains ls m → m.cycle < l.cycle → CanStart g table allocation m.row m.cycle)
      → ¬ (memory_class_at g l.row ≡ g.entry)
      → (memory_class_at g l.row ≡ g.entry) ⊎ Any (LeavesBelow g l.cycle (memory_class_at g l.row)) ls
      → HasCome g table allocation (memory_class_at g l.row) l.cycle
  memory_from l before ne (inl e) = absurd (ne e)
  memory_from l before ne (inr (j, m, lt, e, left)) =
      let here : Contains ls m = (j, lt, e) in
      let stores = test-some (instr_at g m.row) is_store left.store in
      let u = use_at m here in
      let same : Some stores.0 ≡ Some u.0 = sym stores.1 ∙ u.2 in
      let store : is_store u.0 ≡ true = (let q : stores.0 ≡ u.0 = cc in ap is_store (sym q) ∙ stores.2) in
      let early = left.early in
      subst (λ c. HasCome g table allocation c l.cycle) left.leaves
      (come m.row m.cycle l.cycle 1 u.0 u.1 u.2 u.3 (store_delay u.0 u.1 store) (omega arith)
      (before m here (omega arith)))

  -- each class that a launch awaits has come
  awaited_from : (l : Launch) → Contains ls l
      → ((m : Launch) → Contains ls m → m.cycle < l.cycle → CanStart g table allocation m.row m.cycle)
      → CanStart g table allocation l.row l.cycle
  awaited_from l h before _ (word o need) =
      come_from l before o need
      (All-contains (λ o. IsFree g o ⊎ IsReadable g table ls l o.class) (operands_at g l.row) o
      (All-contains (CanRead g table ls) ls l rules.operands h) need.operand)
  awaited_from l h before _ (memory i live at access ne) =
      memory_from l before ne
      (All-contains
      (λ l. IsTrue (launches g accesses l)
      → (memory_class_at g l.row ≡ g.entry) ⊎ Any (LeavesBelow g l.cycle (memory_class_at g l.row)) ls)
      ls l finds h (ap (λ (o : Option InstrKind). option_map_or accesses o false) at ∙ access))

  starts_below : (n : ℕ) (l : Launch) → Contains ls l → l.cycle < n → CanStart g table allocation l.row l.cycle
  starts_below zero l h lt = absurd (omega arith)
  starts_below (suc n) l h lt = awaited_from l h (λ m c b. starts_below n m c (omega arith))

  can-start : (l : Launch) → Contains ls l → CanStart g table allocation l.row l.cycle
  can-start l h = starts_below (l.cycle + 1) l h (omega arith)

  -- ---- without what is not kept

  module _ (keep : Launch → Bool) (keeps : (l : Launch) → Contains (all_launches g table allocation k) l → Decides (keep l) (HasVariable g table allocation l)) where
    member : (l : Launch) → Contains ls l → Contains (all_launches g table allocation k) l
    member l h = listed-in g table allocation k is_table l (All-contains (CanLaunch g table) ls l rules.rows h) (All-contains (MayGo g allocation) ls l rules.destinations h) (All-contains (EndsBy g table k) ls l rules.in_time h)

    abbrev kept : List Launch
    kept = filter keep ls

    stays_by : (l : Launch) → Contains ls l → IsTrue (launches g is_store l) ⊎ IsTrue (launches g is_branch l) ⊎ Wanted g (class_at g l.row) → keep l ≡ true
    stays_by l h w = (keeps l (member l h)).1 (record { start = can-start l h; wanted = w })

    into : (l : Launch) → Contains ls l → IsTrue (launches g is_store l) ⊎ IsTrue (launches g is_branch l) ⊎ Wanted g (class_at g l.row) → Contains kept l
    into l h w = filter-in keep ls l h (stays_by l h w)

    back : (l : Launch) → Contains kept l → Contains ls l × HasVariable g table allocation l
    back l h = (let f = filter-out keep ls l h in (f.0, (keeps l (member l f.0)).0 f.1))

    apart_kept : AllPairs (λ l m. ¬ Collide l m) kept
    apart_kept i j d lt len c =
        let a = get_or kept i d in
        let b = get_or kept j d in
        let test = is_at a.slot a.cycle in
        let two = two_at test kept i j d lt len (and_from (a.slot == a.slot) (a.cycle == a.cycle) (eq-eqb a.slot a.slot refl) (eq-eqb a.cycle a.cycle refl)) (and_from (b.slot == a.slot) (b.cycle == a.cycle) (eq-eqb b.slot a.slot (sym c.1)) (eq-eqb b.cycle a.cycle (sym c.0))) in
        let one = count-one test ls (λ i j d lt len q r.
        let x = get_or ls i d in
        let y = get_or ls j d in
        let qs = and_parts (x.slot == a.slot) (x.cycle == a.cycle) q in
        let rs = and_parts (y.slot == a.slot) (y.cycle == a.cycle) r in
        rules.apart i j d lt len (eqb-true x.cycle a.cycle qs.1 ∙ sym (eqb-true y.cycle a.cycle rs.1), eqb-true x.slot a.slot qs.0 ∙ sym (eqb-true y.slot a.slot rs.0))) in
        let less = count_less keep test ls in
        absurd (omega arith)

    three_kinds : (i : InstrKind) → (gives_word i ≡ true) ⊎ (is_store i ≡ true) ⊎ (is_branch i ≡ true)
    three_kinds (Store access) = inr (inl refl)
    three_kinds Beq = inr (inr refl)
    three_kinds i = inl refl

    want_by : (l : Launch) → Contains ls l → (o : Operand) → Lacks g (IsSafe g) l.row o → IsTrue (launches g is_store l) ⊎ IsTrue (launches g is_branch l) ⊎ Wanted g (class_at g l.row) → Wanted g o.class
    want_by l h o need (inl s) = (let i = test-some (instr_at g l.row) is_store s in store l.row o i.0 i.1 i.2 need)
    want_by l h o need (inr (inl b)) = (let i = test-some (instr_at g l.row) is_branch b in guard l.row o i.0 i.1 i.2 need)
    want_by l h o need (inr (inr w)) =
        let can = some-and (instr_at g l.row) (λ i. MayUse table i l.slot) (All-contains (CanLaunch g table) ls l rules.rows h) in
        elim (three_kinds can.0) [
          | inl t ↦ operand l.row o can.0 can.1 t w need
          | inr (inl t) ↦ store l.row o can.0 can.1 t need
          | inr (inr t) ↦ guard l.row o can.0 can.1 t need
        ]

    -- what a kept launch needs is wanted
    wants_one : (l : Launch) → Contains ls l → HasVariable g table allocation l → (o : Operand) → Lacks g (IsSafe g) l.row o → Wanted g o.class
    wants_one l h ok o need = want_by l h o need ok.wanted

    safe_spoilt : (l m : Launch) (r : ℕ) → ¬ IsPin g r → IsTrue (spoils g l r m) → ⊥
    safe_spoilt l m r n h = n (pin_from g r m (and_parts (writes_pin g r m) (not (collides l m) && nat_lt m.cycle (reads_until g l)) h).0)

    read_kept : (l : Launch) → Contains ls l → HasVariable g table allocation l → (o : Operand) → Contains (operands_at g l.row) o → IsFree g o ⊎ IsReadable g table ls l o.class → IsFree g o ⊎ IsReadable g table kept l o.class
    read_kept l h ok o ho (inl f) = inl f
    read_kept l h ok o ho (inr (inl (n, i, lt, e, (c, u)))) = inr (inl (n, i, lt, e, (c, All-filter keep (λ m. ¬ IsTrue (spoils g l i.reg m)) ls u)))
    read_kept l h ok o ho (inr (inr (j, m, lt, e, (gave, ready)))) =
        elim (cases_Bool (is_free g o)) [
          | inl f ↦ inl (free-is g o f)
          | inr nf ↦ elim (cases_Bool (is_safe g o.class)) [
            | inl i ↦ (let s = safe-is g o.class i in inr (inl (s.0, s.1, s.2, s.3, (s.4.0, λ n d len sp. safe_spoilt l (get_or kept n d) s.1.reg s.4.1 sp))))
            | inr ni ↦
                (let need : Lacks g (IsSafe g) l.row o = record { operand = ho; free = λ f. false≢true (sym nf ∙ free-from g o f); there = λ i. false≢true (sym ni ∙ safe-from g o.class i) } in
                let w : Wanted g (class_at g m.row) = subst (Wanted g) (sym gave.1) (wants_one l h ok o need) in
                inr (inr (any_from (λ m. Gives g o.class m × (ready_in g table (cluster_of table l.slot) m ≤ l.cycle)) kept m (into m (j, lt, e) (inr (inr w))) (gave, ready))))
          ]
        ]

    reads_kept : All (CanRead g table kept) kept
    reads_kept =
        All-from_members (CanRead g table kept) kept (λ l h.
        let b = back l h in
        All-from_members (λ o. IsFree g o ⊎ IsReadable g table kept l o.class) (operands_at g l.row) (λ o ho.
        read_kept l b.0 b.1 o ho (All-contains (λ o. IsFree g o ⊎ IsReadable g table ls l o.class) (operands_at g l.row) o (All-contains (CanRead g table ls) ls l rules.operands b.0) ho)))

    -- ---- targets

    free_kept : (s : SetClass) → Contains g.sets s → is_memory_name s.name ≡ false → HasInput g s.class (IsUnwritten g ls) ⊎ (IsZero g s.class ⊎ Any (Gives g s.class) ls) → HasInput g s.class (IsUnwritten g kept) ⊎ (IsZero g s.class ⊎ Any (Gives g s.class) kept)
    free_kept s h nm (inl (n, i, lt, e, (c, u))) = inl (n, i, lt, e, (c, All-filter keep (λ m. ¬ IsTrue (writes_pin g i.reg m)) ls u))
    free_kept s h nm (inr (inl z)) = inr (inl z)
    free_kept s h nm (inr (inr (j, l, lt, e, gave))) =
        elim (cases_Bool (is_safe g s.class)) [
          | inl i ↦ (let a = safe-is g s.class i in inl (a.0, a.1, a.2, a.3, (a.4.0, λ n d len w. a.4.1 (pin_from g a.1.reg (get_or kept n d) w))))
          | inr ni ↦
              (let w : Wanted g (class_at g l.row) = subst (Wanted g) (sym gave.1) (target s h (λ m. false≢true (sym nm ∙ m)) (λ i. false≢true (sym ni ∙ safe-from g s.class i))) in
              inr (inr (any_from (Gives g s.class) kept l (into l (j, lt, e) (inr (inr w))) gave)))
        ]

    reach_kept : (s : SetClass) → Contains g.sets s → IsFreeReached g ls s → IsFreeReached g kept s
    reach_kept s h reached none =
        elim (cases_Bool (is_memory_name s.name)) [
          | inl m ↦ inl m
          | inr nm ↦ elim (reached none) [
            | inl m ↦ absurd (false≢true (sym nm ∙ m))
            | inr r ↦ inr (free_kept s h nm r)
          ]
        ]

    -- what goes to a pinned set is wanted
    want_goes : (l : Launch) → Contains ls l → ¬ (l.to ≡ Pool) → Wanted g (class_at g l.row)
    want_goes l h away =
        elim (goes_of g allocation l (All-contains (MayGo g allocation) ls l rules.destinations h)) [
          | inl p ↦ absurd (away p.0)
          | inr (r, s, at, e, c) ↦ (
              let p = pinned_from g l.to r e in
              let there : set_at g l.to ≡ Some p.1 = ap (set_at g) p.2 ∙ p.3 in
              let same : s ≡ p.1 = same_Some s p.1 (sym at ∙ there) in
              let here : Contains g.sets p.1 = (p.0, in_list g.sets p.0 p.1 p.3, get_or_from_slice_get g.sets p.0 p.1 p.1 p.3) in
              let class : p.1.class ≡ class_at g l.row = ap (λ (x : SetClass). x.class) (sym same) ∙ sym c.gives.1 in
              subst (Wanted g) class (pinned p.1 r here p.4))
        ]

    -- each store, each branch and what goes to a pinned set is kept
    pub pinned_kept : (l : Launch) → Contains ls l → IsTrue (launches g is_store l) ⊎ IsTrue (launches g is_branch l) ⊎ ¬ (l.to ≡ Pool) → keep l ≡ true
    pinned_kept l h (inl s) = stays_by l h (inl s)
    pinned_kept l h (inr (inl b)) = stays_by l h (inr (inl b))
    pinned_kept l h (inr (inr away)) = stays_by l h (inr (inr (want_goes l h away)))

    pub pinned_rules_kept : KeepsCycleRules g table allocation k kept
    pinned_rules_kept = record {
      rows = All-filter keep (CanLaunch g table) ls rules.rows;
      destinations = All-filter keep (MayGo g allocation) ls rules.destinations;
      apart = apart_kept;
      operands = reads_kept;
      in_time = All-filter keep (EndsBy g table k) ls rules.in_time;
      targets = All-from_members (IsFreeReached g kept) g.sets (λ s h. reach_kept s h (All-contains (IsFreeReached g ls) g.sets s rules.targets h));
    }

    pub serve_seen : IsLaunchGraph g → (e : Listed) (n : IsPinnedList g table allocation k e) → (l m : Launch) (o : Operand) → Contains kept l → Contains (operands_at g l.row) o → is_made g o ≡ true → Contains kept m → Gives g o.class m → Contains e.seen (record { class = o.class; cluster = cluster_of table l.slot; cycle = l.cycle })
    serve_seen well e n l m o hl ho t hm gave =
        let b = back l hl in
        let ok = listed-one g table allocation k is_table l (member l b.0) in
        let p = and_parts (not (is_free g o)) (not (is_safe g o.class)) t in
        let need : Lacks g (IsSafe g) l.row o = record { operand = ho; free = λ f. false≢true (sym (not-true (is_free g o) p.0) ∙ free-from g o f); there = λ i. false≢true (sym (not-true (is_safe g o.class) p.1) ∙ safe-from g o.class i) } in
        let made = pinned_made_class g well o m t gave in
        let wanted : Wanted g o.class = wants_one l b.0 b.1 o need in
        subst (λ ds. Contains ds (record { class = o.class; cluster = cluster_of table l.slot; cycle = l.cycle })) (sym n.seen_are)
        (seen-in g table k (filter n.want (made_classes g)) o.class (cluster_of table l.slot) l.cycle (filter-in n.want (made_classes g) o.class made ((n.wants o.class made).1 wanted)) (cluster-in g table k is_table l.slot ok.slot) ok.early)

-- the lists of the pinned encoding serve what is kept
pub kept-serve : (g : LaunchGraph) (table : Table) (allocation : Allocation) (k : ℕ) (is_table : IsTable table)
    (well : IsLaunchGraph g) (ls : List Launch) (rules : KeepsCycleRules g table allocation k ls) (finds : FindsMemory g ls)
    (e : Listed) (n : IsPinnedList g table allocation k e) → ServesPins g table allocation k e (filter n.keep ls)
kept-serve g table allocation k is_table well ls rules finds e n = record {
  listed = pinned-listed g table allocation k is_table e n;
  once = subst (λ (ls : List Launch). NoTwice ls) (sym n.launches_are) (filter-once n.keep (all_launches g table allocation k) (launches-once g table allocation k));
  members = λ l h.
      let f = filter-out n.keep ls l h in
      subst (λ (ls : List Launch). Contains ls l) (sym n.launches_are) (filter-in n.keep (all_launches g table allocation k) l (member g table allocation k is_table ls rules finds n.keep n.keeps l f.0) f.1);
  seen = serve_seen g table allocation k is_table ls rules finds n.keep n.keeps well e n;
}
