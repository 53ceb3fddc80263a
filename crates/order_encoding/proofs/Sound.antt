-- Launches of which the families hold keep memory and the branch in order.
use Rattle.std.proofs.Common.{◌≡◌, ℕ, suc, zero, ◌+◌, ◌<◌, ◌≤◌, true, false, List, length, get_or, refl, sym, ap, ◌∙◌, subst, arith, inl, inr, ◌⊎◌, Option, Some, None}
use Rattle.std.specs.Prelude.{◌||◌, ◌&&◌, ◌==◌, nat_le, is_some, IsTrue, Contains, IfSome}
use Rattle.std.specs.List.{All, list_any, count_by}
use Rattle.std.proofs.lemmas.Bool.{false≢true, cases_Bool, eqb-true, eqb-false, leb-true, eq-eqb, and_parts, and_from, or_left, or_right}
use Rattle.std.proofs.lemmas.List.Elements.{All-contains, Contains-get_or}
use Rattle.graph_meaning.specs.Graphs.{memory_target}
use Rattle.schedule_meaning.specs.Launches.{launches, is_store, is_load, is_branch, is_held, class_at}
use Rattle.schedule_meaning.specs.Launches.{memory_class_at}
use Rattle.schedule_meaning.specs.Fits.{IsLatestStore, IsLeft, UsesMemory, KeepsMemory, HasOneBranch}
use Rattle.schedule_meaning.specs.Plain.{WaitsPlain}
use Rattle.machine_table.specs.declared.tables.Table.{Table}
use Rattle.graph_meaning.specs.declared.graphs.LaunchGraph.{LaunchGraph}
use Rattle.graph_meaning.specs.declared.graphs.Guard.{Guard}
use Rattle.schedule_meaning.specs.declared.schedules.Launch.{Launch}
use Rattle.order_encoding.specs.OrderVariables.{Held}
use Rattle.order_encoding.specs.OrderFamilies.{is_held_at, stores_at, uses_memory, branches_by, waits}
use Rattle.cycle_encoding.proofs.Tests.{one_at, two_at, same_at, some_of, guarded}
use Rattle.cycle_encoding.proofs.MadeLists.{at_range}
use Rattle.order_encoding.proofs.Says.{SaysMemory, SaysGuard}

module _ (g : LaunchGraph) (table : Table) (k : ℕ) (S : List Launch) (below : All (λ l. l.cycle < k) S) where
  -- ---- memory

  module _ (M : List Held) (W : List ℕ) (says : SaysMemory g table k S M W)
      (held : (t : ℕ) → t ≤ k → count_by (λ (m : Held). m.cycle == t) M ≤ 1)
      (single : (t : ℕ) → t < k → count_by (stores_at g t) S ≤ 1) where
    abbrev IsHeld : ℕ → ℕ → Type 0
    IsHeld c t = list_any (is_held_at c t) M ≡ true

    held_once : (a b t : ℕ) → t ≤ k → IsHeld a t → IsHeld b t → a ≡ b
    held_once a b t le p q =
        let x = some_of (is_held_at a t) M p in
        let y = some_of (is_held_at b t) M q in
        let xp = and_parts (x.0.class == a) (x.0.cycle == t) x.2 in
        let yp = and_parts (y.0.class == b) (y.0.cycle == t) y.2 in
        let same : x.0 ≡ y.0 = same_at (λ (m : Held). m.cycle == t) M (held t le) x.0 y.0 x.1 xp.1 y.1 yp.1 in
        sym (eqb-true x.0.class a xp.0) ∙ ap (λ (m : Held). m.class) same ∙ eqb-true y.0.class b yp.0

    -- a store of the launches
    store_held : (l : Launch) → Contains S l → launches g is_store l ≡ true → IsHeld (class_at g l.row) (l.cycle + 1) × (list_any (λ t. t == l.cycle) W ≡ true)
    store_held l h e = All-contains (λ l. launches g is_store l ≡ true → IsHeld (class_at g l.row) (l.cycle + 1) × (list_any (λ t. t == l.cycle) W ≡ true)) S l says.leaves h e

    abbrev Now : ℕ → Type 0
    Now t = (c : ℕ) × IsLeft g S t c × IsHeld c t

    now_stored : (t : ℕ) → t < k → list_any (λ c. c == t) W ≡ true → Now (t + 1)
    now_stored t lt h =
        let w = some_of (λ c. c == t) W h in
        let all = at_range (λ t. All (λ c. (c == t) ≡ true → list_any (stores_at g t) S ≡ true) W) k says.stored t lt in
        let l = some_of (stores_at g t) S (All-contains (λ c. (c == t) ≡ true → list_any (stores_at g t) S ≡ true) W w.0 all w.1 w.2) in
        let p = and_parts (launches g is_store l.0) (l.0.cycle == t) l.2 in
        let at : l.0.cycle ≡ t = eqb-true l.0.cycle t p.1 in
        let c = class_at g l.0.row in
        let latest : IsLatestStore g S (t + 1) l.0 = record {
          store = p.0;
          early = omega arith;
          latest = λ i d lt s e. (let le : (get_or S i d).cycle ≤ l.0.cycle = omega arith in le);
        } in
        (c, inr (l.1.0, l.0, l.1.1, l.1.2, (latest, refl)), subst (λ t. IsHeld c (t + 1)) at (store_held l.0 l.1 p.0).0)

    no_store : (t : ℕ) → list_any (λ c. c == t) W ≡ false → (l : Launch) → Contains S l → launches g is_store l ≡ true → l.cycle ≡ t → ⊥
    no_store t f l h s e = false≢true (sym f ∙ subst (λ t. list_any (λ c. c == t) W ≡ true) e (store_held l h s).1)

    left_on : (t c : ℕ) → list_any (λ c. c == t) W ≡ false → IsLeft g S t c → IsLeft g S (t + 1) c
    left_on t c f (inl p) =
        inl (
          p.0,
          λ i d lt s.
              let m = get_or S i d in
              let before : t ≤ m.cycle = p.1 i d lt s in
              elim (cases_Bool (m.cycle == t)) [
                | inl e ↦ absurd (no_store t f m (Contains-get_or S i d lt) s (eqb-true m.cycle t e))
                | inr n ↦ (let ne : ¬ (m.cycle ≡ t) = eqb-false m.cycle t n in omega arith)
              ],
        )
    left_on t c f (inr (j, l, lt, e, (r, q))) =
        inr (
          j,
          l,
          lt,
          e,
          (
            record {
              store = r.store;
              early = (let b = r.early in omega arith);
              latest = λ i d len s b.
                  let m = get_or S i d in
                  elim (cases_Bool (m.cycle == t)) [
                    | inl e ↦ absurd (no_store t f m (Contains-get_or S i d len) s (eqb-true m.cycle t e))
                    | inr n ↦ (let ne : ¬ (m.cycle ≡ t) = eqb-false m.cycle t n in let le : m.cycle < t = omega arith in r.latest i d len s le)
                  ];
            },
            q,
          ),
        )

    now_kept : (t : ℕ) → t < k → list_any (λ c. c == t) W ≡ false → Now t → Now (t + 1)
    now_kept t lt f (c, left, here) =
        let m = some_of (is_held_at c t) M here in
        let p = and_parts (m.0.class == c) (m.0.cycle == t) m.2 in
        let all = at_range (λ t. All (λ m. (m.cycle == t) ≡ true → (list_any (λ c. c == t) W || list_any (is_held_at m.class (t + 1)) M) ≡ true) M) k says.stays t lt in
        let either : (list_any (λ c. c == t) W || list_any (is_held_at m.0.class (t + 1)) M) ≡ true = All-contains (λ m. (m.cycle == t) ≡ true → (list_any (λ c. c == t) W || list_any (is_held_at m.class (t + 1)) M) ≡ true) M m.0 all m.1 p.1 in
        let next : IsHeld m.0.class (t + 1) = subst (λ b. (b || list_any (is_held_at m.0.class (t + 1)) M) ≡ true) f either in
        (c, left_on t c f left, subst (λ c. IsHeld c (t + 1)) (eqb-true m.0.class c p.0) next)

    now : (t : ℕ) → t ≤ k → Now t
    now zero le = (g.entry, inl (refl, λ i d lt s. (let z : 0 ≤ (get_or S i d).cycle = omega arith in z)), says.entry)
    now (suc t) le =
        let before : Now t = now t (omega arith) in
        let at : t + 1 ≡ suc t = omega arith in
        subst Now at (elim (cases_Bool (list_any (λ c. c == t) W)) [
          | inl w ↦ now_stored t (omega arith) w
          | inr n ↦ now_kept t (omega arith) n before
        ])

    uses_is : (l : Launch) → UsesMemory g l → uses_memory g l ≡ true
    uses_is l (inl a) = or_left (launches g is_load l) (launches g is_store l) a
    uses_is l (inr b) = or_right (launches g is_load l) (launches g is_store l) b

    left_later : (t c : ℕ) → All (λ l. l.cycle < t) S → IsLeft g S k c → IsLeft g S t c
    left_later t c after (inl p) = inl (p.0, λ i d lt s. (let a = p.1 i d lt s in let b = below i d lt in absurd (omega arith)))
    left_later t c after (inr (j, l, lt, e, (r, q))) =
        let at : (get_or S j l) ≡ l = e in
        let early : l.cycle < t = subst (λ (l : Launch). l.cycle < t) at (after j l lt) in
        inr (
          j,
          l,
          lt,
          e,
          (
            record {
              store = r.store;
              early = early;
              latest = λ i d len s b. r.latest i d len s (below i d len);
            },
            q,
          ),
        )

    pub keeps : KeepsMemory g S
    keeps = record {
      each = λ i d lt u.
          let l = get_or S i d in
          let n = now l.cycle (let a = below i d lt in omega arith) in
          let h : IsHeld (memory_class_at g l.row) l.cycle = says.uses i d lt (uses_is l u) in
          subst (λ c. IsLeft g S l.cycle c) (held_once n.0 (memory_class_at g l.row) l.cycle (let a = below i d lt in omega arith) n.2 h) n.1;
      single = λ i j d lt len sa sb e.
          let a = get_or S i d in
          let b = get_or S j d in
          let la : i < length S = omega arith in
          let pa : stores_at g a.cycle a ≡ true = and_from (launches g is_store a) (a.cycle == a.cycle) sa (eq-eqb a.cycle a.cycle refl) in
          let pb : stores_at g a.cycle b ≡ true = and_from (launches g is_store b) (b.cycle == a.cycle) sb (eq-eqb b.cycle a.cycle (sym e)) in
          let two = two_at (stores_at g a.cycle) S i j d lt len pa pb in
          let one = single a.cycle (below i d la) in
          absurd (omega arith);
      last = λ t after.
          let n = now k (omega arith) in
          left_later t (memory_target g) after (subst (λ c. IsLeft g S k c) (held_once n.0 (memory_target g) k (omega arith) n.2 says.last) n.1);
    }

  -- ---- the branch

  if_guard : (o : Option Guard) (P : Type 0) → (is_some o ≡ true → P) → IfSome o (λ _. P)
  if_guard None P h = tt
  if_guard (Some x) P h = h refl

  module _ (B : List ℕ) (says : SaysGuard g table k S B) (once : is_some g.guard ≡ true → count_by (launches g is_branch) S ≤ 1) where
    pub one_branch : HasOneBranch g S
    one_branch =
        if_guard g.guard (count_by (launches g is_branch) S ≡ 1) (λ e.
        let b = some_of (launches g is_branch) S (says.branch e) in
        let at : get_or S b.1.0 b.0 ≡ b.0 = b.1.2 in
        let least = one_at (launches g is_branch) S b.1.0 b.0 b.1.1 (ap (launches g is_branch) at ∙ b.2) in
        let most = once e in
        omega arith)

    waits_is : (l : Launch) → IsTrue (launches g is_store l) ⊎ (IsTrue (launches g is_load l) × IsTrue (is_held g)) → waits g l ≡ true
    waits_is l (inl a) = or_left (launches g is_store l) (launches g is_load l && is_held g) a
    waits_is l (inr b) = or_right (launches g is_store l) (launches g is_load l && is_held g) (and_from (launches g is_load l) (is_held g) b.0 b.1)

    pub after_branch : All (WaitsPlain g S) S
    after_branch i d lt w j e len isb =
        let l = get_or S i d in
        let b = get_or S j e in
        let guard = guarded g b isb in
        let t = some_of (λ t. t == l.cycle) B (says.wait guard i d lt (waits_is l w)) in
        let c = some_of (branches_by g t.0) S (All-contains (λ t. list_any (branches_by g t) S ≡ true) B t.0 (says.come guard) t.1) in
        let p = and_parts (launches g is_branch c.0) (nat_le c.0.cycle t.0) c.2 in
        let same : b ≡ c.0 = same_at (launches g is_branch) S (once guard) b c.0 (Contains-get_or S j e len) isb c.1 p.0 in
        let at : t.0 ≡ l.cycle = eqb-true t.0 l.cycle t.2 in
        let le : c.0.cycle ≤ t.0 = leb-true c.0.cycle t.0 p.1 in
        let cycles : b.cycle ≡ c.0.cycle = ap (λ (l : Launch). l.cycle) same in
        omega arith
