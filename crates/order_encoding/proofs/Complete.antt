-- What the families say holds of launches that keep memory and the branch in order, with what they make held.
use Rattle.std.proofs.Common.{◌≡◌, ℕ, suc, ◌+◌, ◌<◌, ◌≤◌, Bool, true, false, not, List, [], ◌∷◌, length, get_or, refl, sym, ap, ◌∙◌, subst, arith, inl, inr, ◌⊎◌, Option, Some, None}
use Rattle.std.specs.Prelude.{◌||◌, ◌&&◌, ◌==◌, ◌↔◌, nat_le, is_some, IsTrue, Contains, IfSome}
use Rattle.std.specs.List.{All, AllPairs, filter, list_any, count_by, range_with_len}
use Rattle.std.proofs.lemmas.Bool.{false≢true, cases_Bool, eqb-true, eqb-false, eq-eqb, le-leb, and_parts, and_from, or_cases, or_left, or_right, not-true}
use Rattle.std.proofs.lemmas.List.Elements.{All-contains, Contains-get_or}
use Rattle.graph_meaning.specs.Graphs.{memory_target}
use Rattle.graph_meaning.specs.WellFormed.{IsLaunchGraph, next_class}
use Rattle.schedule_meaning.specs.Launches.{launches, is_store, is_load, is_branch, is_held, class_at}
use Rattle.schedule_meaning.specs.Launches.{memory_class_at, memory_before}
use Rattle.schedule_meaning.specs.Fits.{Collide, IsLatestStore, IsLeft, KeepsMemory, HasOneBranch}
use Rattle.schedule_meaning.specs.Plain.{WaitsPlain}
use Rattle.machine_table.specs.declared.tables.Table.{Table}
use Rattle.graph_meaning.specs.declared.graphs.LaunchGraph.{LaunchGraph}
use Rattle.graph_meaning.specs.declared.graphs.Guard.{Guard}
use Rattle.schedule_meaning.specs.declared.schedules.Launch.{Launch}
use Rattle.cycle_encoding.specs.Shapes.{when}
use Rattle.cycle_encoding.specs.Variables.{classes_of}
use Rattle.cycle_encoding.specs.CycleRules.{HasPlace}
use Rattle.order_encoding.specs.OrderVariables.{memory_classes, is_memory_class, all_held, Held}
use Rattle.order_encoding.specs.OrderFamilies.{is_held_at, stores_at, uses_memory, branches_by, waits}
use Rattle.cycle_encoding.proofs.Tests.{some_of, some_in, two_at}
use Rattle.cycle_encoding.proofs.Counting.{count-one, count-none}
use Rattle.cycle_encoding.proofs.Members.{NoTwice, twice, filter-in, filter-out, filter-once, range-in, range-out, All-from_members, few-among}
use Rattle.order_encoding.proofs.Says.{SaysMemory, SaysGuard}
use Rattle.order_encoding.proofs.MemoryRows.{store-launch, read-launch, memory-sort, target-class}
use Rattle.order_encoding.proofs.Listing.{held-in, held-out, held-once}

-- the launches of a list, each once and in its place
pub record SameLaunches (table : Table) (k : ℕ) (ls S : List Launch) : Type 0 where
  pub members : (l : Launch) → Contains S l ↔ Contains ls l
  pub once : NoTwice S
  pub places : All (HasPlace table k) S

-- launches of which no two collide are each once
apart-once : (ls : List Launch) → AllPairs (λ l m. ¬ Collide l m) ls → NoTwice ls
apart-once [] h = tt
apart-once (l ∷ ls) h =
    let size : length (l ∷ ls) ≡ suc (length ls) = refl in (
      (λ c.
          let in_tail : c.0 < length ls = c.1 in
          let is : get_or ls c.0 l ≡ l = c.2 in
          h 0 (suc c.0) l (omega arith) (omega (arith, size)) (ap (λ (x : Launch). x.cycle) (sym is), ap (λ (x : Launch). x.slot) (sym is))),
      apart-once ls (λ i j d lt len. h (suc i) (suc j) d (omega arith) (omega (arith, size))),
    )

-- what is shown of launches, of which no two collide, is each of them once
pub shown-same : (table : Table) (k : ℕ) (ls S : List Launch) → ((l : Launch) → Contains S l ↔ Contains ls l) → AllPairs (λ l m. ¬ Collide l m) S → All (HasPlace table k) S → SameLaunches table k ls S
shown-same table k ls S members apart places = record { members = members; once = apart-once S apart; places = places }

-- launches keep memory and the branch in order
pub record KeepsOrder (g : LaunchGraph) (ls : List Launch) : Type 0 where
  pub memory : KeepsMemory g ls
  pub one_branch : HasOneBranch g ls
  pub after_branch : All (WaitsPlain g ls) ls

-- ---- the things that a schedule makes true

module _ (g : LaunchGraph) (table : Table) (k : ℕ) (ls : List Launch) where
  abbrev pub held_now : Held → Bool
  held_now m = m.class == memory_before g ls m.cycle

  abbrev pub stored_now : ℕ → Bool
  stored_now t = list_any (stores_at g t) ls

  abbrev pub come_now : ℕ → Bool
  come_now t = list_any (branches_by g t) ls

  abbrev pub held : List Held
  held = filter held_now (all_held g k)

  abbrev pub stored : List ℕ
  stored = filter stored_now (range_with_len 0 k)

  abbrev pub come : List ℕ
  come = filter come_now (when (is_some g.guard) (range_with_len 0 k))

  module _ (S : List Launch) (same : SameLaunches table k ls S) (is_graph : IsLaunchGraph g) (fit : KeepsOrder g ls) where
    -- ---- the same launches

    pub launched-out : (l : Launch) → Contains S l → Contains ls l
    launched-out l h = (same.members l).0 h

    pub launched-in : (l : Launch) → Contains ls l → Contains S l
    launched-in l h = (same.members l).1 h

    pub place : (l : Launch) → Contains S l → HasPlace table k l
    place l h = All-contains (HasPlace table k) S l same.places h

    -- a test that some launch passes
    pub pass : (test : Launch → Bool) → list_any test ls ≡ true → list_any test S ≡ true
    pass test h = (let l = some_of test ls h in some_in test S l.0 (launched-in l.0 l.1) l.2)

    -- ---- stores

    pub stores-few : (t : ℕ) → count_by (stores_at g t) S ≤ 1
    stores-few t =
        few-among (stores_at g t) S ls same.once launched-out (λ i j d lt len p q.
        let a = get_or ls i d in
        let b = get_or ls j d in
        let pa = and_parts (launches g is_store a) (a.cycle == t) p in
        let pb = and_parts (launches g is_store b) (b.cycle == t) q in
        fit.memory.single i j d lt len pa.0 pb.0 (eqb-true a.cycle t pa.1 ∙ sym (eqb-true b.cycle t pb.1)))

    -- ---- memory

    module _ (left : (t : ℕ) → IsLeft g ls t (memory_before g ls t)) (once : (t a b : ℕ) → IsLeft g ls t a → IsLeft g ls t b → a ≡ b) where
      is_before : (t c : ℕ) → IsLeft g ls t c → c ≡ memory_before g ls t
      is_before t c h = once t c (memory_before g ls t) h (left t)

      memory_in : (c : ℕ) → (is_memory_class g c ≡ true) × (c < next_class g.rows) → Contains (memory_classes g) c
      memory_in c h = (let bound = h.1 in filter-in (is_memory_class g) (classes_of g) c (range-in 0 (next_class g.rows) c (omega arith) (omega arith)) h.0)

      held_one : (c t : ℕ) → Contains (memory_classes g) c → t ≤ k → IsLeft g ls t c → list_any (is_held_at c t) held ≡ true
      held_one c t hc le h =
          some_in (is_held_at c t) held (record { class = c; cycle = t })
          (filter-in held_now (all_held g k) (record { class = c; cycle = t }) (held-in g table k c t hc le) (eq-eqb c (memory_before g ls t) (is_before t c h)))
          (and_from (c == c) (t == t) (eq-eqb c c refl) (eq-eqb t t refl))

      at_first : IsLeft g ls 0 g.entry
      at_first = inl (refl, λ i d lt s. (let z : 0 ≤ (get_or ls i d).cycle = omega arith in z))

      after_store : (l : Launch) → Contains ls l → launches g is_store l ≡ true → IsLeft g ls (l.cycle + 1) (class_at g l.row)
      after_store l h s =
          let latest : IsLatestStore g ls (l.cycle + 1) l = record {
            store = s;
            early = omega arith;
            latest = λ i d lt s e. (let le : (get_or ls i d).cycle ≤ l.cycle = omega arith in le);
          } in
          inr (h.0, l, h.1, h.2, (latest, refl))

      in_stored : (t : ℕ) → t < k → stored_now t ≡ true → list_any (λ c. c == t) stored ≡ true
      in_stored t lt h = some_in (λ c. c == t) stored t (filter-in stored_now (range_with_len 0 k) t (range-in 0 k t (omega arith) (omega arith)) h) (eq-eqb t t refl)

      no_store : (t : ℕ) → t < k → list_any (λ c. c == t) stored ≡ false → (l : Launch) → Contains ls l → launches g is_store l ≡ true → l.cycle ≡ t → ⊥
      no_store t lt f l h s e =
          false≢true (sym f ∙ in_stored t lt (some_in (stores_at g t) ls l h (and_from (launches g is_store l) (l.cycle == t) s (eq-eqb l.cycle t e))))

      left_on : (t c : ℕ) → t < k → list_any (λ c. c == t) stored ≡ false → IsLeft g ls t c → IsLeft g ls (t + 1) c
      left_on t c lt f (inl p) =
          inl (
            p.0,
            λ i d len s.
                let m = get_or ls i d in
                let before : t ≤ m.cycle = p.1 i d len s in
                elim (cases_Bool (m.cycle == t)) [
                  | inl e ↦ absurd (no_store t lt f m (Contains-get_or ls i d len) s (eqb-true m.cycle t e))
                  | inr n ↦ (let ne : ¬ (m.cycle ≡ t) = eqb-false m.cycle t n in omega arith)
                ],
          )
      left_on t c lt f (inr (j, l, len, e, (r, q))) =
          inr (
            j,
            l,
            len,
            e,
            (
              record {
                store = r.store;
                early = (let b = r.early in omega arith);
                latest = λ i d lm s b.
                    let m = get_or ls i d in
                    elim (cases_Bool (m.cycle == t)) [
                      | inl e ↦ absurd (no_store t lt f m (Contains-get_or ls i d lm) s (eqb-true m.cycle t e))
                      | inr n ↦ (let ne : ¬ (m.cycle ≡ t) = eqb-false m.cycle t n in let le : m.cycle < t = omega arith in r.latest i d lm s le)
                    ];
              },
              q,
            ),
          )

      stays_one : (t : ℕ) → t < k → (m : Held) → Contains held m → (m.cycle == t) ≡ true → (list_any (λ c. c == t) stored || list_any (is_held_at m.class (t + 1)) held) ≡ true
      stays_one t lt m h e =
          elim (cases_Bool (list_any (λ c. c == t) stored)) [
            | inl s ↦ or_left (list_any (λ c. c == t) stored) (list_any (is_held_at m.class (t + 1)) held) s
            | inr f ↦
                (let f' = filter-out held_now (all_held g k) m h in
                let is : m.class ≡ memory_before g ls m.cycle = eqb-true m.class (memory_before g ls m.cycle) f'.1 in
                let at : m.cycle ≡ t = eqb-true m.cycle t e in
                let now : IsLeft g ls t m.class = subst (λ t. IsLeft g ls t m.class) at (subst (λ c. IsLeft g ls m.cycle c) (sym is) (left m.cycle)) in
                or_right (list_any (λ c. c == t) stored) (list_any (is_held_at m.class (t + 1)) held) (held_one m.class (t + 1) (held-out g table k m f'.0).0 (omega arith) (left_on t m.class lt f now)))
          ]

      pub memories : SaysMemory g table k S held stored
      memories = record {
        entry = held_one g.entry 0 (memory_in g.entry (memory-sort g g.entry is_graph.entry)) (omega arith) at_first;
        others = All-from_members (λ m. ((m.cycle == 0) && not (m.class == g.entry)) ≡ true → ⊥) held (λ m h t.
            let p = and_parts (m.cycle == 0) (not (m.class == g.entry)) t in
            let f = filter-out held_now (all_held g k) m h in
            let is : m.class ≡ memory_before g ls m.cycle = eqb-true m.class (memory_before g ls m.cycle) f.1 in
            let at : m.cycle ≡ 0 = eqb-true m.cycle 0 p.0 in
            let same : m.class ≡ g.entry = is ∙ ap (memory_before g ls) at ∙ sym (is_before 0 g.entry at_first) in
            false≢true (sym (not-true (m.class == g.entry) p.1) ∙ eq-eqb m.class g.entry same));
        uses = All-from_members (λ l. uses_memory g l ≡ true → list_any (is_held_at (memory_class_at g l.row) l.cycle) held ≡ true) S (λ l h u.
            let from = launched-out l h in
            let early : l.cycle < k = (place l h).1 in
            let is : IsLeft g ls l.cycle (memory_class_at g l.row) = All-contains (λ l. IsTrue (launches g is_load l) ⊎ IsTrue (launches g is_store l) → IsLeft g ls l.cycle (memory_class_at g l.row)) ls l fit.memory.each from (elim (or_cases (launches g is_load l) (launches g is_store l) u) [ inl a ↦ inl a | inr b ↦ inr b ]) in
            held_one (memory_class_at g l.row) l.cycle (memory_in (memory_class_at g l.row) (read-launch g is_graph l u)) (omega arith) is);
        leaves = All-from_members (λ l. launches g is_store l ≡ true → (list_any (is_held_at (class_at g l.row) (l.cycle + 1)) held ≡ true) × (list_any (λ t. t == l.cycle) stored ≡ true)) S (λ l h s.
            let from = launched-out l h in
            let early : l.cycle < k = (place l h).1 in (
              held_one (class_at g l.row) (l.cycle + 1) (memory_in (class_at g l.row) (store-launch g l s)) (omega arith) (after_store l from s),
              in_stored l.cycle early (some_in (stores_at g l.cycle) ls l from (and_from (launches g is_store l) (l.cycle == l.cycle) s (eq-eqb l.cycle l.cycle refl))),
            ));
        stored = All-from_members (λ t. All (λ c. (c == t) ≡ true → list_any (stores_at g t) S ≡ true) stored) (range_with_len 0 k) (λ t ht. All-from_members (λ c. (c == t) ≡ true → list_any (stores_at g t) S ≡ true) stored (λ c hc e.
            pass (stores_at g t) (subst (λ t. stored_now t ≡ true) (eqb-true c t e) (filter-out stored_now (range_with_len 0 k) c hc).1)));
        stays = All-from_members (λ t. All (λ m. (m.cycle == t) ≡ true → (list_any (λ c. c == t) stored || list_any (is_held_at m.class (t + 1)) held) ≡ true) held) (range_with_len 0 k) (λ t ht. All-from_members (λ m. (m.cycle == t) ≡ true → (list_any (λ c. c == t) stored || list_any (is_held_at m.class (t + 1)) held) ≡ true) held (λ m hm e.
            stays_one t (let b = (range-out 0 k t ht).1 in omega arith) m hm e));
        last = held_one (memory_target g) k (memory_in (memory_target g) (target-class g is_graph)) (omega arith) (fit.memory.last k (All-from_members (λ l. l.cycle < k) ls (λ l h. (place l (launched-in l h)).1)));
      }

      pub held-few : (t : ℕ) → count_by (λ (m : Held). m.cycle == t) held ≤ 1
      held-few t =
          count-one (λ (m : Held). m.cycle == t) held (λ i j d lt len p q.
          let a = get_or held i d in
          let b = get_or held j d in
          let li : i < length held = omega arith in
          let fa = filter-out held_now (all_held g k) a (Contains-get_or held i d li) in
          let fb = filter-out held_now (all_held g k) b (Contains-get_or held j d len) in
          let ea : a.cycle ≡ t = eqb-true a.cycle t p in
          let eb : b.cycle ≡ t = eqb-true b.cycle t q in
          let ca : a.class ≡ memory_before g ls t = eqb-true a.class (memory_before g ls a.cycle) fa.1 ∙ ap (memory_before g ls) ea in
          let cb : b.class ≡ memory_before g ls t = eqb-true b.class (memory_before g ls b.cycle) fb.1 ∙ ap (memory_before g ls) eb in
          let ab : a ≡ b = (let x : a ≡ record { class = b.class; cycle = a.cycle } = ap (λ c. record { class = c; cycle = a.cycle }) (ca ∙ sym cb) in let y : record { class = b.class; cycle = a.cycle } ≡ b = ap (λ t. record { class = b.class; cycle = t }) (ea ∙ sym eb) in x ∙ y) in
          twice held (filter-once held_now (all_held g k) (held-once g table k)) i j d lt len ab)

    -- ---- the branch

    guard_one : (o : Option Guard) (n : ℕ) → IfSome o (λ _. n ≡ 1) → is_some o ≡ true → n ≡ 1
    guard_one None n h e = absurd (false≢true e)
    guard_one (Some x) n h e = h

    pub a_branch : is_some g.guard ≡ true → list_any (launches g is_branch) ls ≡ true
    a_branch e =
        elim (cases_Bool (list_any (launches g is_branch) ls)) [
          | inl t ↦ t
          | inr f ↦
              (let one = guard_one g.guard (count_by (launches g is_branch) ls) fit.one_branch e in
              let zero' = count-none (launches g is_branch) ls (λ i d lt t. false≢true (sym f ∙ some_in (launches g is_branch) ls (get_or ls i d) (Contains-get_or ls i d lt) t)) in
              absurd (omega arith))
        ]

    pub branch-few : is_some g.guard ≡ true → count_by (launches g is_branch) S ≤ 1
    branch-few e =
        few-among (launches g is_branch) S ls same.once launched-out (λ i j d lt len p q.
        let one = guard_one g.guard (count_by (launches g is_branch) ls) fit.one_branch e in
        let two = two_at (launches g is_branch) ls i j d lt len p q in
        absurd (omega arith))

    pub when_is : (b : Bool) (xs : List ℕ) → b ≡ true → when b xs ≡ xs
    when_is true xs e = refl
    when_is false xs e = absurd (false≢true e)

    pub guards : SaysGuard g table k S come
    guards = record {
      branch = λ e. pass (launches g is_branch) (a_branch e);
      wait = λ e. All-from_members (λ l. waits g l ≡ true → list_any (λ t. t == l.cycle) come ≡ true) S (λ l h w.
          let b = some_of (launches g is_branch) ls (a_branch e) in
          let early : l.cycle < k = (place l h).1 in
          let after = All-contains (λ l. IsTrue (launches g is_store l) ⊎ (IsTrue (launches g is_load l) × IsTrue (is_held g)) → All (λ b. IsTrue (launches g is_branch b) → b.cycle ≤ l.cycle) ls) ls l fit.after_branch (launched-out l h) (elim (or_cases (launches g is_store l) (launches g is_load l && is_held g) w) [ inl a ↦ inl a | inr c ↦ (let p = and_parts (launches g is_load l) (is_held g) c in inr (p.0, p.1)) ]) in
          let le : (b.0).cycle ≤ l.cycle = All-contains (λ b. IsTrue (launches g is_branch b) → b.cycle ≤ l.cycle) ls b.0 after b.1 b.2 in
          let passes : branches_by g l.cycle b.0 ≡ true = and_from (launches g is_branch b.0) (nat_le (b.0).cycle l.cycle) b.2 (le-leb (b.0).cycle l.cycle le) in
          some_in (λ t. t == l.cycle) come l.cycle
          (filter-in come_now (when (is_some g.guard) (range_with_len 0 k)) l.cycle (subst (λ xs. Contains xs l.cycle) (sym (when_is (is_some g.guard) (range_with_len 0 k) e)) (range-in 0 k l.cycle (omega arith) (omega arith))) (some_in (branches_by g l.cycle) ls b.0 b.1 passes))
          (eq-eqb l.cycle l.cycle refl));
      come = λ e. All-from_members (λ t. list_any (branches_by g t) S ≡ true) come (λ t h. pass (branches_by g t) (filter-out come_now (when (is_some g.guard) (range_with_len 0 k)) t h).1);
    }
