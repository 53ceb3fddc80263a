-- By which cycles classes come, one row more at a time.
use Rattle.std.proofs.Common.{◌≡◌, ℕ, zero, suc, ◌+◌, ◌<◌, ◌≤◌, Bool, true, false, cond, List, [], ◌∷◌, ◌++◌, length, map, take, set, get_or, refl, sym, ap, ◌∙◌, subst, arith, inl, inr, ◌⊎◌, Option, Some, None}
use Rattle.std.specs.Prelude.{◌==◌, nat_le, Contains, option_and_then}
use Rattle.std.specs.Option.{option_map_or}
use Rattle.std.specs.List.{range_with_len}
use Rattle.std.proofs.lemmas.Bool.{false≢true, cases_lt, cases_eq, leb-true, le-leb, lt-ltb, le-ltb}
use Rattle.std.proofs.lemmas.Bool.{and_parts, and_from, and_left, and_right}
use Rattle.std.proofs.lemmas.Option.{same_Some, none-some}
use Rattle.std.proofs.lemmas.List.{get_or-set_same, get_or-set_other, take_more}
use Rattle.std.proofs.lemmas.List.Elements.{All-contains}
use Rattle.machine_table.specs.Tables.{IsTable, IsUse, use_of}
use Rattle.machine_table.specs.InstrOrder.{kind_number}
use Rattle.schedule_meaning.specs.Launches.{instr_at, gives_word, is_branch, is_store, class_at}
use Rattle.schedule_meaning.specs.declared.schedules.Allocation.{Allocation}
use Rattle.schedule_meaning.specs.declared.schedules.Launch.{Launch}
use Rattle.schedule_meaning.specs.declared.schedules.To.TheVariants.{Pool}
use Rattle.machine_table.specs.declared.tables.Table.{Table}
use Rattle.machine_table.specs.declared.tables.Use.{Use}
use Rattle.machine_table.specs.declared.tables.InstrKind.{InstrKind}
use Rattle.machine_table.specs.declared.tables.InstrKind.TheVariants.{Operate, Lda, Ldah, Load, Store, Beq}
use Rattle.graph_meaning.specs.WellFormed.{IsLaunchGraph, next_class}
use Rattle.graph_meaning.specs.declared.graphs.LaunchGraph.{LaunchGraph}
use Rattle.cycle_encoding.specs.Narrow.{HasCome, come, CanStart, delay_of}
use Rattle.cycle_encoding.specs.Coming.{start_needs, delay_at, is_come, are_come, earlier, come_by, AreSound, IsExactUpTo, IsPassed, ComesAreFound, StillCome}
use Rattle.cycle_encoding.proofs.Members.{find-out, here, later, nothing}
use Rattle.cycle_encoding.proofs.LackSteps.{await-in, await-out}
use Rattle.cycle_encoding.proofs.PinnedRows.{word-launch, store-sort}
use Rattle.cycle_encoding.proofs.RowFacts.{got, class-below, at_row}

-- ---- the table, with one class more

by_test : (t : ℕ) (o : Option ℕ) → option_map_or (λ n. nat_le n t) o false ≡ true → (n : ℕ) × (o ≡ Some n) × (n ≤ t)
by_test t None h = absurd (false≢true h)
by_test t (Some n) h = (n, refl, leb-true n t h)

pub come-out : (known : List (Option ℕ)) (t class : ℕ) → is_come known t class ≡ true → (n : ℕ) × (get_or known class None ≡ Some n) × (n ≤ t)
come-out known t class h = by_test t (get_or known class None) h

pub come-in : (known : List (Option ℕ)) (t class n : ℕ) → get_or known class None ≡ Some n → n ≤ t → is_come known t class ≡ true
come-in known t class n e le = ap (λ (o : Option ℕ). option_map_or (λ n. nat_le n t) o false) e ∙ le-leb n t le

earlier-new : (o : Option ℕ) (n : ℕ) → earlier o n ≤ n
earlier-new None n = omega arith
earlier-new (Some m) n =
    elim (cases_lt m n) [
      | inl lt ↦ (let e = ap (λ b. cond {A = ℕ} b m n) (lt-ltb m n lt) in omega arith)
      | inr le ↦ (let e = ap (λ b. cond {A = ℕ} b m n) (le-ltb m n le) in omega arith)
    ]

earlier-old : (m n : ℕ) → earlier (Some m) n ≤ m
earlier-old m n =
    elim (cases_lt m n) [
      | inl lt ↦ (let e = ap (λ b. cond {A = ℕ} b m n) (lt-ltb m n lt) in omega arith)
      | inr le ↦ (let e = ap (λ b. cond {A = ℕ} b m n) (le-ltb m n le) in omega arith)
    ]

earlier-is : (o : Option ℕ) (n : ℕ) → (earlier o n ≡ n) ⊎ (o ≡ Some (earlier o n))
earlier-is None n = inl refl
earlier-is (Some m) n =
    elim (cases_lt m n) [
      | inl lt ↦ inr (ap Some (sym (ap (λ b. cond {A = ℕ} b m n) (lt-ltb m n lt))))
      | inr le ↦ inl (ap (λ b. cond {A = ℕ} b m n) (le-ltb m n le))
    ]

module _ (known : List (Option ℕ)) (class n : ℕ) where
  abbrev new : ℕ
  new = earlier (get_or known class None) n

  inside : class < length known → come_by known class n ≡ set known class (Some new)
  inside lt = ap (λ b. cond b (set known class (Some new)) known) (lt-ltb class (length known) lt)

  outside : length known ≤ class → come_by known class n ≡ known
  outside le = ap (λ b. cond b (set known class (Some new)) known) (le-ltb class (length known) le)

  this : class < length known → get_or (come_by known class n) class None ≡ Some new
  this lt = ap (λ (xs : List (Option ℕ)). get_or xs class None) (inside lt) ∙ get_or-set_same known class (Some new) None lt

  other : (c : ℕ) → (c ≡ class → ⊥) → get_or (come_by known class n) c None ≡ get_or known c None
  other c ne =
      elim (cases_lt class (length known)) [
        | inl lt ↦ ap (λ (xs : List (Option ℕ)). get_or xs c None) (inside lt) ∙ get_or-set_other known class c (Some new) None ne
        | inr le ↦ ap (λ (xs : List (Option ℕ)). get_or xs c None) (outside le)
      ]

  pub still : StillCome known (come_by known class n)
  still t c h =
      let m = come-out known t c h in
      elim (cases_eq c class) [
        | inr ne ↦ come-in (come_by known class n) t c m.0 (other c ne ∙ m.1) m.2
        | inl e ↦ elim (cases_lt class (length known)) [
          | inr le ↦ come-in (come_by known class n) t c m.0 (ap (λ (xs : List (Option ℕ)). get_or xs c None) (outside le) ∙ m.1) m.2
          | inl lt ↦
              (let was : get_or known class None ≡ Some m.0 = ap (λ x. get_or known x None) (sym e) ∙ m.1 in
              let low : new ≤ m.0 = subst (λ (o : Option ℕ). earlier o n ≤ m.0) (sym was) (earlier-old m.0 n) in
              let le = m.2 in
              come-in (come_by known class n) t c new (ap (λ x. get_or (come_by known class n) x None) e ∙ this lt) (omega arith))
        ]
      ]

  pub come-now : class < length known → is_come (come_by known class n) n class ≡ true
  come-now lt = come-in (come_by known class n) n class new (this lt) (earlier-new (get_or known class None) n)

  pub still-sound : (g : LaunchGraph) (table : Table) (allocation : Allocation) → AreSound g table allocation known
      → HasCome g table allocation class n → AreSound g table allocation (come_by known class n)
  still-sound g table allocation sound h c m e =
      elim (cases_eq c class) [
        | inr ne ↦ sound c m (sym (other c ne) ∙ e)
        | inl ec ↦ elim (cases_lt class (length known)) [
          | inr le ↦ sound c m (sym (ap (λ (xs : List (Option ℕ)). get_or xs c None) (outside le)) ∙ e)
          | inl lt ↦
              (let at : Some new ≡ Some m = sym (this lt) ∙ ap (λ x. get_or (come_by known class n) x None) (sym ec) ∙ e in
              let is : new ≡ m = same_Some new m at in
              elim (earlier-is (get_or known class None) n) [
                | inl now ↦ subst (λ x. HasCome g table allocation x m) (sym ec) (subst (λ x. HasCome g table allocation class x) (sym now ∙ is) h)
                | inr was ↦ subst (λ x. HasCome g table allocation x m) (sym ec) (sound class m (was ∙ at))
              ])
        ]
      ]

-- what gives a word is no branch
pub no-branch-word : (i : InstrKind) → gives_word i ≡ true → is_branch i ≡ false
no-branch-word Beq h = absurd (false≢true h)
no-branch-word (Operate x) h = refl
no-branch-word Lda h = refl
no-branch-word Ldah h = refl
no-branch-word (Load x) h = refl
no-branch-word (Store x) h = refl

latency-bounds : (u : Use) (n : ℕ) → (1 ≤ u.latency) × (u.latency ≤ 16) → Some u.latency ≡ Some n → (1 ≤ n) × (n ≤ 16)
latency-bounds u n b h =
    let e : u.latency ≡ n = same_Some u.latency n h in
    let lo = b.0 in
    let hi = b.1 in
    (omega arith, omega arith)

give-or-store : (i : InstrKind) → is_branch i ≡ false → (gives_word i ≡ true) ⊎ (is_store i ≡ true)
give-or-store (Store access) h = inr refl
give-or-store Beq h = absurd (false≢true (sym h))
give-or-store i h = inl refl

-- ---- what a row needs

module _ (g : LaunchGraph) (table : Table) (allocation : Allocation) where
  -- what has come by a cycle has come by each later one
  pub come-later : (class t u : ℕ) → HasCome g table allocation class t → t ≤ u → HasCome g table allocation class u
  come-later _ _ u (come row start t delay i u0 e k d le needs) lt =
      come row start u delay i u0 e k d (omega arith) needs

  pub are-out : (known : List (Option ℕ)) (t : ℕ) (cs : List ℕ) → are_come known t cs ≡ true → (c : ℕ)
      → Contains cs c → is_come known t c ≡ true
  are-out known t [] h c k = absurd (nothing c k)
  are-out known t (d ∷ cs) h c (zero, lt, e) =
      subst (λ x. is_come known t x ≡ true) e (and_parts (is_come known t d) (are_come known t cs) h).0
  are-out known t (d ∷ cs) h c (suc i, lt, e) =
      are-out known t cs (and_parts (is_come known t d) (are_come known t cs) h).1 c
      (i, (let s : length (d ∷ cs) ≡ suc (length cs) = refl in omega (arith, s, lt)), e)

  pub are-in : (known : List (Option ℕ)) (t : ℕ) (cs : List ℕ)
      → ((c : ℕ) → Contains cs c → is_come known t c ≡ true) → are_come known t cs ≡ true
  are-in known t [] h = refl
  are-in known t (d ∷ cs) h =
      and_from (is_come known t d) (are_come known t cs) (h d (here d cs))
      (are-in known t cs (λ c k. h c (later d c cs k)))

  -- a row can start where its classes are found to have come
  pub can-start : (known : List (Option ℕ)) (t row : ℕ) → AreSound g table allocation known
      → are_come known t (start_needs g allocation row) ≡ true → CanStart g table allocation row t
  can-start known t row sound h class awaits =
      let m =
      come-out known t class
      (are-out known t (start_needs g allocation row) h class (await-in g allocation row class awaits)) in
      come-later class m.0 t (sound class m.0 m.1) m.2

  pub start-found : (known : List (Option ℕ)) (t row : ℕ) → ComesAreFound g table allocation known t
      → CanStart g table allocation row t → are_come known t (start_needs g allocation row) ≡ true
  start-found known t row found start =
      are-in known t (start_needs g allocation row) (λ c k. found c (start c (await-out g allocation row c k)))

  -- ---- delays

  by_use : (i : InstrKind) (o : Option Use) (n : ℕ) → option_and_then (delay_of i) o ≡ Some n
      → (u : Use) × (o ≡ Some u) × (delay_of i u ≡ Some n)
  by_use i None n h = absurd (none-some n h)
  by_use i (Some u) n h = (u, refl, h)

  by_instr : (o : Option InstrKind) (n : ℕ)
      → option_and_then (λ i. option_and_then (delay_of i) (use_of table i)) o ≡ Some n
      → (i : InstrKind) × (o ≡ Some i) × (option_and_then (delay_of i) (use_of table i) ≡ Some n)
  by_instr None n h = absurd (none-some n h)
  by_instr (Some i) n h = (i, refl, h)

  pub delay-out : (row n : ℕ) → delay_at g table row ≡ Some n
      → (i : InstrKind) × (u : Use) × (instr_at g row ≡ Some i) × (use_of table i ≡ Some u)
      × (delay_of i u ≡ Some n)
  delay-out row n h =
      let i = by_instr (instr_at g row) n h in
      let u = by_use i.0 (use_of table i.0) n i.2 in
      (i.0, u.0, i.1, u.1, u.2)

  pub delay-in : (row n : ℕ) (i : InstrKind) (u : Use) → instr_at g row ≡ Some i → use_of table i ≡ Some u
      → delay_of i u ≡ Some n → delay_at g table row ≡ Some n
  delay-in row n i u e k d =
      ap (option_and_then (λ i. option_and_then (delay_of i) (use_of table i))) e
      ∙ ap (option_and_then (delay_of i)) k ∙ d

  pub comes : (row t n : ℕ) → delay_at g table row ≡ Some n → CanStart g table allocation row t
      → HasCome g table allocation (class_at g row) (t + n)
  comes row t n h start =
      let l = delay-out row n h in
      come row t (t + n) n l.0 l.1 l.2 l.3 l.4 (omega arith) start

  -- what comes is no branch
  pub no-branch : (i : InstrKind) (u : Use) (n : ℕ) → delay_of i u ≡ Some n → is_branch i ≡ false
  no-branch Beq u n h = absurd (none-some n h)
  no-branch (Operate x) u n h = refl
  no-branch Lda u n h = refl
  no-branch Ldah u n h = refl
  no-branch (Load x) u n h = refl
  no-branch (Store x) u n h = refl

  -- a delay is one of 1 to 16
  delay-bounds : (i : InstrKind) (u : Use) (n : ℕ) → (1 ≤ u.latency) × (u.latency ≤ 16) → delay_of i u ≡ Some n
      → (1 ≤ n) × (n ≤ 16)
  delay-bounds Beq u n b h = absurd (none-some n h)
  delay-bounds (Store x) u n b h = (let e : 1 ≡ n = same_Some 1 n h in (omega arith, omega arith))
  delay-bounds (Operate x) u n b h = latency-bounds u n b h
  delay-bounds Lda u n b h = latency-bounds u n b h
  delay-bounds Ldah u n b h = latency-bounds u n b h
  delay-bounds (Load x) u n b h = latency-bounds u n b h

  -- ---- a cycle more

  module _ (is_table : IsTable table) where
    pub delay-few : (row n : ℕ) → delay_at g table row ≡ Some n → (1 ≤ n) × (n ≤ 16)
    delay-few row n h =
        let l = delay-out row n h in
        let is : IsUse table l.1 =
        All-contains (IsUse table) table.uses l.1 is_table.uses
        (find-out (λ (u : Use). kind_number u.instr == kind_number l.0) table.uses l.1 l.3).0 in
        delay-bounds l.0 l.1 n is.latency l.4

    -- where all rows passed in the cycles below t, all is found that has come by t
    pub all-found : (known : List (Option ℕ)) (t : ℕ)
        → ((s row : ℕ) → s < t → IsPassed g table allocation known s row) → (u class : ℕ) → u ≤ t
        → HasCome g table allocation class u → is_come known u class ≡ true
    all-found known t passed _ _ le (come row start u delay i v e k d until needs) =
        let at = delay-in row delay i v e k d in
        let one = (delay-few row delay at).0 in
        let now = passed start row (omega arith) delay at needs in
        let m = come-out known (start + delay) (class_at g row) now in
        let low = m.2 in
        come-in known u (class_at g row) m.0 m.1 (omega arith)

  -- ---- rows that give words or memories

  -- their classes stand in the tables
  pub low-class : IsLaunchGraph g → (row : ℕ) (i : InstrKind) → instr_at g row ≡ Some i → is_branch i ≡ false
      → class_at g row < next_class g.rows
  low-class well row i e w =
      let l : Launch = record { cycle = 0; slot = 0; row = row; to = Pool } in
      elim (give-or-store i w) [
        | inl t ↦ (word-launch g well l (ap (λ (o : Option InstrKind). option_map_or gives_word o false) e ∙ t)).1
        | inr t ↦ (
            let r = store-sort g l (ap (λ (o : Option InstrKind). option_map_or is_store o false) e ∙ t) in
            let b = class-below g r.0 (got g.rows row r.0 r.1) in
            let s = at_row g row r.0 r.1 in
            omega arith)
      ]

-- ---- the steps of the code

pub are-append : (known : List (Option ℕ)) (t : ℕ) (xs : List ℕ) (c : ℕ) → are_come known t xs ≡ true → is_come known t c ≡ true → are_come known t (xs ++ c ∷ []) ≡ true
are-append known t [] c h k = and_from (is_come known t c) true k refl
are-append known t (x ∷ xs) c h k =
    let p = and_parts (is_come known t x) (are_come known t xs) h in
    and_from (is_come known t x) (are_come known t (xs ++ c ∷ [])) p.0 (are-append known t xs c p.1 k)

pub are-more : (known : List (Option ℕ)) (t : ℕ) (cs : List ℕ) (i d : ℕ) → i < length cs → are_come known t (take i cs) ≡ true → is_come known t (get_or cs i d) ≡ true → are_come known t (take (i + 1) cs) ≡ true
are-more known t cs i d lt h k = ap (are_come known t) (take_more cs i d lt) ∙ are-append known t (take i cs) (get_or cs i d) h k

pub are-not : (known : List (Option ℕ)) (t : ℕ) (cs : List ℕ) (i d : ℕ) → i < length cs → is_come known t (get_or cs i d) ≡ false → false ≡ are_come known t cs
are-not known t [] i d lt h = absurd (let z : length {A = ℕ} [] ≡ 0 = refl in omega (arith, z))
are-not known t (x ∷ cs) zero d lt h = sym (and_left (is_come known t x) (are_come known t cs) h)
are-not known t (x ∷ cs) (suc i) d lt h =
    sym (and_right (is_come known t x) (are_come known t cs) (sym (are-not known t cs i d (let s : length (x ∷ cs) ≡ suc (length cs) = refl in omega (arith, s)) h)))

module _ (g : LaunchGraph) (table : Table) (allocation : Allocation) (known : List (Option ℕ)) (cycle row n : ℕ)
    (needs : List ℕ) (en : needs ≡ start_needs g allocation row) (w : delay_at g table row ≡ Some n) where
  ready : are_come known cycle needs ≡ true → are_come known cycle (start_needs g allocation row) ≡ true
  ready h = ap (are_come known cycle) (sym en) ∙ h

  pub not-ready : ComesAreFound g table allocation known cycle → are_come known cycle needs ≡ false → IsPassed g table allocation known cycle row
  not-ready found h m e start = absurd (false≢true (sym h ∙ ap (are_come known cycle) en ∙ start-found g table allocation known cycle row found start))

  module _ (class m : ℕ) (new : List (Option ℕ)) (ec : class ≡ class_at g row) (em : m ≡ cycle + n) (e : new ≡ come_by known class m) (sound : AreSound g table allocation known) (h : are_come known cycle needs ≡ true) where
    now : HasCome g table allocation class m
    now = subst (λ c. HasCome g table allocation c m) (sym ec) (subst (HasCome g table allocation (class_at g row)) (sym em) (comes g table allocation row cycle n w (can-start g table allocation known cycle row sound (ready h))))

    pub row-sound : AreSound g table allocation new
    row-sound = subst (AreSound g table allocation) (sym e) (still-sound known class m g table allocation sound now)

    pub row-passed : IsLaunchGraph g → length known ≡ next_class g.rows → IsPassed g table allocation new cycle row
    row-passed well long j ej start =
        let same : n ≡ j = same_Some n j (sym w ∙ ej) in
        let l = delay-out g table allocation row n w in
        let bound : class < length known = (let b = low-class g table allocation well row l.0 l.2 (no-branch g table allocation l.0 l.1 n l.4) in omega arith) in
        let at : is_come (come_by known class m) m class ≡ true = come-now known class m bound in
        let until : m ≡ cycle + j = omega arith in
        ap (λ (xs : List (Option ℕ)). is_come xs (cycle + j) (class_at g row)) e
        ∙ ap (λ c. is_come (come_by known class m) (cycle + j) c) (sym ec)
        ∙ ap (λ u. is_come (come_by known class m) u class) (sym until)
        ∙ at

-- at first nothing is found
nones : (a n i : ℕ) → get_or (map {A = ℕ} {B = Option ℕ} (λ _. None) (range_with_len a n)) i None ≡ None
nones a zero i = refl
nones a (suc n) zero = refl
nones a (suc n) (suc i) = nones (a + 1) n i

pub none-yet : (g : LaunchGraph) (table : Table) (allocation : Allocation) (n : ℕ) (known : List (Option ℕ)) → known ≡ map (λ _. None) (range_with_len 0 n) → AreSound g table allocation known
none-yet g table allocation n known e class m h =
    absurd (none-some m (sym (nones 0 n class) ∙ ap (λ (xs : List (Option ℕ)). get_or xs class None) (sym e) ∙ h))

-- ---- one row more, and one cycle more

module _ (g : LaunchGraph) (table : Table) (allocation : Allocation) (old new : List (Option ℕ)) (still-come : StillCome old new) where
  kept : (cycle row : ℕ) → IsPassed g table allocation old cycle row → IsPassed g table allocation new cycle row
  kept cycle row p n e start = still-come (cycle + n) (class_at g row) (p n e start)

  pub one-more-row : (cycle row : ℕ) → IsPassed g table allocation new cycle row → ((r : ℕ) → r < row → IsPassed g table allocation old cycle r) → (r : ℕ) → r < row + 1 → IsPassed g table allocation new cycle r
  one-more-row cycle row this-row before r lt =
      elim (cases_eq r row) [
        | inl e ↦ subst (IsPassed g table allocation new cycle) (sym e) this-row
        | inr ne ↦ kept cycle r (before r (omega arith))
      ]

  pub one-more-cycle : (cycle : ℕ) → ((row : ℕ) → IsPassed g table allocation new cycle row) → ((s row : ℕ) → s < cycle → IsPassed g table allocation old s row) → (s row : ℕ) → s < cycle + 1 → IsPassed g table allocation new s row
  one-more-cycle cycle now before s row lt =
      elim (cases_eq s cycle) [
        | inl e ↦ subst (λ s. IsPassed g table allocation new s row) (sym e) (now row)
        | inr ne ↦ kept s row (before s row (omega arith))
      ]

-- where all rows passed in the cycles up to t, it is found exactly what has come by them
pub exact : (g : LaunchGraph) (table : Table) (allocation : Allocation) → IsTable table → (known : List (Option ℕ)) (t : ℕ) → AreSound g table allocation known → ((s row : ℕ) → s < t + 1 → IsPassed g table allocation known s row) → IsExactUpTo g table allocation known t
exact g table allocation is_table known t sound passed u class le = (
  (λ h. let m = come-out known u class h in come-later g table allocation class m.0 u (sound class m.0 m.1) m.2),
  (λ h. all-found g table allocation is_table known (t + 1) passed u class (omega arith) h),
)
