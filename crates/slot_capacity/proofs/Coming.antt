-- What a launch of a schedule that fits reads, another launch has given before.
use Rattle.std.proofs.Common.{◌≡◌, ℕ, zero, suc, ◌+◌, ◌<◌, ◌≤◌, Bool, true, false, not, cond, List, [], ◌∷◌, refl, sym, ap, ◌∙◌, subst, arith, inl, inr, ◌⊎◌, Option, Some, None}
use Rattle.std.specs.Prelude.{◌&&◌, ◌==◌, Contains, unwrap_or, option_and_then, option_map}
use Rattle.std.specs.Option.{option_map_or}
use Rattle.std.specs.List.{filter}
use Rattle.std.proofs.lemmas.Bool.{false≢true, cases_Bool, and_from, and_parts, eqb-true, eq-eqb, not-true, not_from_false, or_cases}
use Rattle.std.proofs.lemmas.List.Elements.{All-contains, Contains-append_cases, Contains-append_left}
use Rattle.machine_table.specs.Tables.{IsTable, IsUse, MayUse, latency_of, use_of}
use Rattle.machine_table.specs.InstrOrder.{kind_number}
use Rattle.machine_table.specs.declared.tables.InstrKind.{InstrKind}
use Rattle.machine_table.specs.declared.tables.InstrKind.TheVariants.{Operate, Lda, Ldah, Load, Store, Beq}
use Rattle.machine_table.specs.declared.tables.Table.{Table}
use Rattle.machine_table.specs.declared.tables.Use.{Use}
use Rattle.graph_meaning.specs.Graphs.{is_zero_class}
use Rattle.graph_meaning.specs.declared.graphs.LaunchGraph.{LaunchGraph}
use Rattle.schedule_meaning.specs.Launches.{Gives, IsFree, IsReadable, class_at, gives_word, instr_at, is_branch, is_load, is_store, launches, memory_class_at, operands_at}
use Rattle.schedule_meaning.specs.Fits.{CanLaunch, CanRead, Fits, IsLeft, UsesMemory}
use Rattle.schedule_meaning.specs.declared.schedules.Allocation.{Allocation}
use Rattle.schedule_meaning.specs.declared.schedules.Launch.{Launch}
use Rattle.schedule_meaning.specs.declared.schedules.Operand.{Operand}
use Rattle.cycle_encoding.specs.Coming.{delay_at}
use Rattle.cycle_encoding.specs.Counts.{row_is}
use Rattle.cycle_encoding.specs.Facts.{classes_among}
use Rattle.cycle_encoding.specs.Families.{is_free}
use Rattle.cycle_encoding.specs.Narrow.{accesses, delay_of}
use Rattle.cycle_encoding.specs.Variables.{is_input}
use Rattle.cycle_encoding.proofs.Members.{either, filter-in, filter-out, find-out, map-in, map-out, nothing}
use Rattle.cycle_encoding.proofs.RowFacts.{some-and, test-some, some_is}
use Rattle.cycle_encoding.proofs.Tests.{free-from, input-from, some_of, some_in}
use Rattle.slot_capacity.specs.Due.{can_be_due}
use Rattle.slot_capacity.specs.Makers.{has, makes_own, reads_of}

-- ---- numbers in lists

pub has-out : (xs : List ℕ) (x : ℕ) → has xs x ≡ true → Contains xs x
has-out xs x h =
    let m = some_of (λ y. y == x) xs h in
    subst (λ y. Contains xs y) (eqb-true m.0 x m.2) m.1

pub has-in : (xs : List ℕ) (x : ℕ) → Contains xs x → has xs x ≡ true
has-in xs x h = some_in (λ y. y == x) xs x h (eq-eqb x x refl)

-- ---- what a row reads

-- an operand of the class that needs a register, or the memory
abbrev ReadsOf : LaunchGraph → ℕ → ℕ → Type 0
ReadsOf g row c =
    ((o : Operand) × Contains (operands_at g row) o × (is_free g o ≡ false) × (o.class ≡ c))
    ⊎ ((row_is g accesses row ≡ true) × (memory_class_at g row ≡ c))

one_if_any : (b : Bool) (x c : ℕ) → Contains (cond b (x ∷ []) []) c → (b ≡ true) × (x ≡ c)
one_if_any true x c h = elim (either x c [] h) [ inl e ↦ (refl, e) | inr n ↦ absurd (nothing c n) ]
one_if_any false x c h = absurd (nothing c h)

reads-are : (g : LaunchGraph) (row c : ℕ) → has (reads_of g row) c ≡ true → ReadsOf g row c
reads-are g row c h =
    let test = λ (o : Operand). not (is_free g o) in
    elim (Contains-append_cases (classes_among test (operands_at g row))
    (cond (row_is g accesses row) (memory_class_at g row ∷ []) []) c (has-out (reads_of g row) c h)) [
      | inl w ↦ (
          let m = map-out (λ (o : Operand). o.class) (filter test (operands_at g row)) c w in
          let f = filter-out test (operands_at g row) m.0 m.1 in
          inl (m.0, f.0, not-true (is_free g m.0) f.1, m.2))
      | inr w ↦ inr (one_if_any (row_is g accesses row) (memory_class_at g row) c w)
    ]

-- an operand that needs a register is read
pub reads-operand : (g : LaunchGraph) (row c : ℕ) (o : Operand) → Contains (operands_at g row) o → is_free g o ≡ false
    → o.class ≡ c → has (reads_of g row) c ≡ true
reads-operand g row c o h held is =
    let test = λ (o : Operand). not (is_free g o) in
    has-in (reads_of g row) c
    (Contains-append_left (classes_among test (operands_at g row))
    (cond (row_is g accesses row) (memory_class_at g row ∷ []) []) c
    (subst (λ x. Contains (classes_among test (operands_at g row)) x) is
    (map-in (λ (o : Operand). o.class) (filter test (operands_at g row)) o
    (filter-in test (operands_at g row) o h (not_from_false (is_free g o) held)))))

-- ---- launches

-- a launch that is no branch gives the class, which has come by the cycle
pub record Comes (g : LaunchGraph) (table : Table) (ls : List Launch) (c t : ℕ) (l : Launch) : Type 0 where
  pub there : Contains ls l
  pub class : class_at g l.row ≡ c
  pub plain : row_is g is_branch l.row ≡ false
  pub delay : ℕ
  pub delay_is : delay_at g table l.row ≡ Some delay
  pub some : 1 ≤ delay
  pub before : l.cycle + delay ≤ t

-- a launch gives the class without reading it
pub record Makes (g : LaunchGraph) (ls : List Launch) (c : ℕ) (l : Launch) : Type 0 where
  pub there : Contains ls l
  pub class : class_at g l.row ≡ c
  pub own : makes_own g l.row ≡ true

word_delay : (i : InstrKind) (u : Use) → gives_word i ≡ true → delay_of i u ≡ Some u.latency
word_delay (Store x) u h = absurd (false≢true h)
word_delay Beq u h = absurd (false≢true h)
word_delay (Operate x) u h = refl
word_delay Lda u h = refl
word_delay Ldah u h = refl
word_delay (Load x) u h = refl

store_delay : (i : InstrKind) (u : Use) → is_store i ≡ true → delay_of i u ≡ Some 1
store_delay (Store x) u h = refl
store_delay Beq u h = absurd (false≢true h)
store_delay (Operate x) u h = absurd (false≢true h)
store_delay Lda u h = absurd (false≢true h)
store_delay Ldah u h = absurd (false≢true h)
store_delay (Load x) u h = absurd (false≢true h)

pub word-plain : (i : InstrKind) → gives_word i ≡ true → is_branch i ≡ false
word-plain (Store x) h = absurd (false≢true h)
word-plain Beq h = absurd (false≢true h)
word-plain (Operate x) h = refl
word-plain Lda h = refl
word-plain Ldah h = refl
word-plain (Load x) h = refl

store_plain : (i : InstrKind) → is_store i ≡ true → is_branch i ≡ false
store_plain (Store x) h = refl
store_plain Beq h = absurd (false≢true h)
store_plain (Operate x) h = refl
store_plain Lda h = refl
store_plain Ldah h = refl
store_plain (Load x) h = refl

-- what the table says of a launch
pub record Used (g : LaunchGraph) (table : Table) (l : Launch) : Type 0 where
  pub instr : InstrKind
  pub used : Use
  pub instr_is : instr_at g l.row ≡ Some instr
  pub use_is : use_of table instr ≡ Some used
  pub slot : Contains used.slots l.slot

module _ (g : LaunchGraph) (table : Table) (a : Allocation) (k : ℕ) (ls : List Launch) (is_table : IsTable table)
    (fit : Fits g table a k ls) where
  pub used-at : (l : Launch) → Contains ls l → Used g table l
  used-at l h =
      let i = some-and (instr_at g l.row) (λ i. MayUse table i l.slot)
      (All-contains (CanLaunch g table) ls l fit.rows h) in
      let u = some-and (use_of table i.0) (λ (u : Use). Contains u.slots l.slot) i.2 in
      record { instr = i.0; used = u.0; instr_is = i.1; use_is = u.1; slot = u.2 }

  pub use-known : (i : InstrKind) (u : Use) → use_of table i ≡ Some u → IsUse table u
  use-known i u e =
      All-contains (IsUse table) table.uses u is_table.uses
      (find-out (λ (u : Use). kind_number u.instr == kind_number i) table.uses u e).0

  delay_by : (l : Launch) (u : Used g table l) → delay_at g table l.row ≡ delay_of u.instr u.used
  delay_by l u =
      ap (option_and_then (λ i. option_and_then (delay_of i) (use_of table i))) u.instr_is
      ∙ ap (option_and_then (delay_of u.instr)) u.use_is

  branch_by : (l : Launch) (u : Used g table l) → row_is g is_branch l.row ≡ is_branch u.instr
  branch_by l u = ap (λ o. option_map_or is_branch o false) u.instr_is

  pub latency-by : (l : Launch) (u : Used g table l)
      → unwrap_or (latency_of table (unwrap_or (instr_at g l.row) Beq)) 0 ≡ (u.used).latency
  latency-by l u =
      ap (λ o. unwrap_or (latency_of table (unwrap_or o Beq)) 0) u.instr_is
      ∙ ap (λ o. unwrap_or (option_map (λ (u : Use). u.latency) o) 0) u.use_is

  -- a word comes after its latency
  word_comes : (c t : ℕ) (m : Launch) → Contains ls m → Gives g c m
      → m.cycle + unwrap_or (latency_of table (unwrap_or (instr_at g m.row) Beq)) 0 ≤ t → Comes g table ls c t m
  word_comes c t m h gave le =
      let u = used-at m h in
      let w = test-some (instr_at g m.row) gives_word gave.0 in
      let same : w.0 ≡ u.instr = some_is w.0 u.instr (sym w.1 ∙ u.instr_is) in
      let word : gives_word u.instr ≡ true = ap gives_word (sym same) ∙ w.2 in
      let known = use-known u.instr u.used u.use_is in
      let latency = latency-by m u in
      record {
        there = h;
        class = gave.1;
        plain = branch_by m u ∙ word-plain u.instr word;
        delay = (u.used).latency;
        delay_is = delay_by m u ∙ word_delay u.instr u.used word;
        some = (known.latency).0;
        before = omega arith;
      }

  -- a store's memory in the next cycle
  store_comes : (c t : ℕ) (m : Launch) → Contains ls m → launches g is_store m ≡ true → class_at g m.row ≡ c
      → m.cycle < t → Comes g table ls c t m
  store_comes c t m h gave is lt =
      let u = used-at m h in
      let w = test-some (instr_at g m.row) is_store gave in
      let same : w.0 ≡ u.instr = some_is w.0 u.instr (sym w.1 ∙ u.instr_is) in
      let store : is_store u.instr ≡ true = ap is_store (sym same) ∙ w.2 in
      record {
        there = h;
        class = is;
        plain = branch_by m u ∙ store_plain u.instr store;
        delay = 1;
        delay_is = delay_by m u ∙ store_delay u.instr u.used store;
        some = omega arith;
        before = omega arith;
      }

  -- ---- classes that aren't there without a launch

  module _ (c : ℕ) (due : can_be_due g c ≡ true) where
    due_parts : (¬ (c ≡ g.entry)) × (is_input g c ≡ false) × (is_zero_class g c ≡ false)
    due_parts =
        let p = and_parts (not (c == g.entry)) (not (is_input g c) && not (is_zero_class g c)) due in
        let q = and_parts (not (is_input g c)) (not (is_zero_class g c)) p.1 in (
          (λ e. false≢true (sym (not-true (c == g.entry) p.0) ∙ eq-eqb c g.entry e)),
          not-true (is_input g c) q.0,
          not-true (is_zero_class g c) q.1,
        )

    pub no-entry : ¬ (c ≡ g.entry)
    no-entry = due_parts.0

    pub no-input : is_input g c ≡ false
    no-input = due_parts.1

    pub no-zero : is_zero_class g c ≡ false
    no-zero = due_parts.2

    -- a memory that isn't that at entry was left by a store
    pub left-comes : (t : ℕ) → IsLeft g ls t c → (m : Launch) × Comes g table ls c t m
    left-comes t (inl p) = absurd (no-entry p.0)
    left-comes t (inr (j, m, lt, e, (latest, is))) =
        let early = latest.early in
        (m, store_comes c t m (j, lt, e) latest.store (sym is) early)

    operand_comes : (l : Launch) (o : Operand) → is_free g o ≡ false → o.class ≡ c
        → IsFree g o ⊎ IsReadable g table ls l o.class → (m : Launch) × Comes g table ls c l.cycle m
    operand_comes l o held is (inl f) = absurd (false≢true (sym held ∙ free-from g o f))
    operand_comes l o held is (inr (inl (n, i, lt, e, (at, u)))) =
        absurd (false≢true (sym no-input ∙ input-from g c (n, i, lt, e, at ∙ is)))
    operand_comes l o held is (inr (inr (j, m, lt, e, (gave, ready)))) =
        (m, word_comes c l.cycle m (j, lt, e) (gave.0, gave.1 ∙ is) (omega arith))

    uses_by : (o : Option InstrKind) → option_map_or accesses o false ≡ true
        → (option_map_or is_load o false ≡ true) ⊎ (option_map_or is_store o false ≡ true)
    uses_by None h = absurd (false≢true h)
    uses_by (Some i) h = or_cases (is_load i) (is_store i) h

    -- what a launch reads has come
    pub read-comes : (l : Launch) → Contains ls l → has (reads_of g l.row) c ≡ true
        → (m : Launch) × Comes g table ls c l.cycle m
    read-comes l h r = elim (reads-are g l.row c r) [
      | inl (o, ho, held, is) ↦
          operand_comes l o held is
          (All-contains (λ o. IsFree g o ⊎ IsReadable g table ls l o.class) (operands_at g l.row) o
          (All-contains (CanRead g table ls) ls l fit.operands h) ho)
      | inr (acc, is) ↦
          left-comes l.cycle
          (subst (IsLeft g ls l.cycle) is
          (All-contains (λ l. UsesMemory g l → IsLeft g ls l.cycle (memory_class_at g l.row)) ls l (fit.memory).each h
          (uses_by (instr_at g l.row) acc)))
    ]

    -- ---- makers

    own_or_reads : (l : Launch) → row_is g is_branch l.row ≡ false → class_at g l.row ≡ c
        → (makes_own g l.row ≡ true) ⊎ (has (reads_of g l.row) c ≡ true)
    own_or_reads l plain is = elim (cases_Bool (has (reads_of g l.row) c)) [
      | inl t ↦ inr t
      | inr f ↦
          inl (and_from (not (row_is g is_branch l.row)) (not (has (reads_of g l.row) (class_at g l.row)))
          (not_from_false (row_is g is_branch l.row) plain)
          (not_from_false (has (reads_of g l.row) (class_at g l.row))
          (ap (has (reads_of g l.row)) is ∙ f)))
    ]

    maker_below : (n : ℕ) (l : Launch) → Contains ls l → has (reads_of g l.row) c ≡ true → l.cycle < n
        → (m : Launch) × Makes g ls c m × Comes g table ls c l.cycle m
    maker_below zero l h r lt = absurd (omega arith)
    maker_below (suc n) l h r lt =
        let m = read-comes l h r in
        let is = m.1 in
        let some = is.some in
        let before = is.before in
        elim (own_or_reads m.0 is.plain is.class) [
          | inl own ↦ (m.0, record { there = is.there; class = is.class; own = own }, is)
          | inr reads ↦ (
              let d = maker_below n m.0 is.there reads (omega arith) in
              let deep = d.2 in
              let early = deep.before in (
                d.0,
                d.1,
                record {
                  there = deep.there;
                  class = deep.class;
                  plain = deep.plain;
                  delay = deep.delay;
                  delay_is = deep.delay_is;
                  some = deep.some;
                  before = omega arith;
                },
              ))
        ]

    -- what a launch reads was made so early that it has come
    pub read-made : (l : Launch) → Contains ls l → has (reads_of g l.row) c ≡ true
        → (m : Launch) × Makes g ls c m × Comes g table ls c l.cycle m
    read-made l h r = maker_below (l.cycle + 1) l h r (omega arith)

    -- what some launch gives some launch makes
    pub given-made : (l : Launch) → Contains ls l → row_is g is_branch l.row ≡ false → class_at g l.row ≡ c
        → (m : Launch) × Makes g ls c m
    given-made l h plain is = elim (own_or_reads l plain is) [
      | inl own ↦ (l, record { there = h; class = is; own = own })
      | inr reads ↦ (let m = read-made l h reads in (m.0, m.1))
    ]
