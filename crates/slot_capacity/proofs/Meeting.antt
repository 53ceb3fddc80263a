-- A schedule that fits launches each due class from its first cycle on and by its deadline.
use Rattle.std.proofs.Common.{◌≡◌, ℕ, zero, suc, ◌+◌, ◌-◌, ◌<◌, ◌≤◌, min, max, Bool, true, false, not, cond, List, [], ◌∷◌, length, get_or, map, refl, sym, ap, ◌∙◌, subst, arith, inl, inr, Option, Some, None}
use Rattle.std.specs.Prelude.{◌&&◌, ◌||◌, ◌==◌, Contains, fold, is_some, slice_get, unwrap_or, IfSome, IsSomeAnd}
use Rattle.std.specs.Option.{option_map_or}
use Rattle.std.specs.List.{filter, list_all, list_any, count_by}
use Rattle.std.proofs.lemmas.Bool.{false≢true, cases_lt, and_from, and_parts, eqb-true, eq-eqb, not-true, or_cases, or_from}
use Rattle.std.proofs.lemmas.List.Elements.{All-contains}
use Rattle.std.proofs.lemmas.List.FromFn.{get_or-map-range_with_len}
use Rattle.std.proofs.lemmas.List.Sums.{length-filter}
use Rattle.std.proofs.lemmas.Option.{same_Some, slice_get-get_or}
use Rattle.machine_table.specs.Tables.{IsTable, latency_of}
use Rattle.machine_table.specs.declared.tables.InstrKind.{InstrKind}
use Rattle.machine_table.specs.declared.tables.InstrKind.TheVariants.{Beq}
use Rattle.machine_table.specs.declared.tables.Table.{Table}
use Rattle.graph_meaning.specs.Graphs.{is_memory_name, is_zero_class, memory_target}
use Rattle.graph_meaning.specs.WellFormed.{next_class}
use Rattle.graph_meaning.specs.declared.graphs.Guard.{Guard}
use Rattle.graph_meaning.specs.declared.graphs.LaunchGraph.{LaunchGraph}
use Rattle.graph_meaning.specs.declared.graphs.SetClass.{SetClass}
use Rattle.schedule_meaning.specs.Launches.{Gives, class_at, copied_at, copy_operands, gives_word, goes_to, guard_operands, instr_at, is_branch, launches, operands_at, plain, row_operands}
use Rattle.schedule_meaning.proofs.Pins.{goes_from}
use Rattle.schedule_meaning.specs.Fits.{CanGo, CanGoTo, CanGoToPin, EndsBy, Fits, IsLeft, IsWhereWanted}
use Rattle.schedule_meaning.specs.declared.schedules.Allocation.{Allocation}
use Rattle.schedule_meaning.specs.declared.schedules.Launch.{Launch}
use Rattle.schedule_meaning.specs.declared.schedules.Operand.{Operand}
use Rattle.cycle_encoding.specs.Coming.{delay_at}
use Rattle.cycle_encoding.specs.Counts.{row_is}
use Rattle.cycle_encoding.specs.Families.{is_free}
use Rattle.cycle_encoding.specs.Variables.{classes_of, row_numbers}
use Rattle.cycle_encoding.proofs.Members.{All-from_members, filter-in, filter-out, here, later, map-in, map-out, range-in}
use Rattle.cycle_encoding.proofs.PinnedRows.{within}
use Rattle.cycle_encoding.proofs.RowFacts.{some-and, test-some}
use Rattle.cycle_encoding.proofs.Tests.{branch-row, input-from, some_of, zero-from}
use Rattle.slot_capacity.specs.Deadlines.{before_branch, deadlines, deadlines_within, first_made, first_of_row, is_guard, last_made, last_of_row, least_delay, lowered, own_deadline, sooner}
use Rattle.slot_capacity.specs.Due.{can_be_due, due_classes, due_within, is_asked_for}
use Rattle.slot_capacity.specs.Makers.{always_reads, can_come, has, is_made, makers_of, makes_own, reads_of}
use Rattle.slot_capacity.specs.Spans.{span_of, spans_of}
use Rattle.slot_capacity.specs.declared.deadlines.Deadline.{Deadline}
use Rattle.slot_capacity.specs.declared.spans.Span.{Span}
use Rattle.slot_capacity.proofs.Coming.{Makes, given-made, has-out, latency-by, left-comes, no-input, no-zero, read-made, reads-operand, use-known, used-at, word-plain}
use Rattle.slot_capacity.proofs.Extremes.{greatest-above, least-below}
use Rattle.slot_capacity.proofs.RowSlots.{all-at}
use Rattle.slot_capacity.proofs.SpanFacts.{covered}

-- ---- spans of launches

-- the span at the number of a listed launch's row
pub span-has : (g : LaunchGraph) (listed : List Launch) (l : Launch) → Contains listed l
    → l.row < length g.rows + 1 + length g.sets
    → (s : Span) × (get_or (spans_of g listed) l.row None ≡ Some s) × (s.first ≤ l.cycle) × (l.cycle ≤ s.last)
span-has g listed l h lt =
    let test = λ (m : Launch). m.row == l.row in
    let s = covered (filter test listed) None l (filter-in test listed l h (eq-eqb l.row l.row refl)) in (
      s.0,
      get_or-map-range_with_len (span_of listed) 0 (length g.rows + 1 + length g.sets) l.row l.row None lt (omega arith)
          ∙ s.1,
      s.2,
      s.3,
    )

-- ---- counts

-- where one passes, some thing does
pub counted-one : {X : Type 0} (test : X → Bool) (xs : List X) → count_by test xs ≡ 1
    → (x : X) × Contains xs x × (test x ≡ true)
counted-one {X = X} test xs one = from_some (filter test xs) refl (length-filter test xs ∙ one)
  where
    from_some : (ys : List X) → filter test xs ≡ ys → length ys ≡ 1 → (x : X) × Contains xs x × (test x ≡ true)
    from_some [] e n = absurd (omega (arith, n))
    from_some (y ∷ ys) e n =
        let f = filter-out test xs y (subst (λ (zs : List X). Contains zs y) (sym e) (here y ys)) in
        (y, f.0, f.1)

beq-is : (i : InstrKind) → is_branch i ≡ true → i ≡ Beq
beq-is Beq h = refl
beq-is i h = absurd (false≢true h)

-- ---- classes that are due

due_front : (g : LaunchGraph) (spans : List (Option Span)) (n c : ℕ) → Contains (due_within g spans n) c
    → can_be_due g c ≡ true
due_front g spans zero c h =
    (and_parts (can_be_due g c) (is_asked_for g c)
    (filter-out (λ c. can_be_due g c && is_asked_for g c) (classes_of g) c h).1).0
due_front g spans (suc n) c h =
    let due = due_within g spans n in
    let test = λ (c : ℕ). has due c || (can_be_due g c && list_any (λ (d : ℕ). always_reads g spans d c) due) in
    elim (or_cases (has due c) (can_be_due g c && list_any (λ (d : ℕ). always_reads g spans d c) due)
    (filter-out test (classes_of g) c h).1) [
      | inl t ↦ due_front g spans n c (has-out due c t)
      | inr t ↦ (and_parts (can_be_due g c) (list_any (λ (d : ℕ). always_reads g spans d c) due) t).0
    ]

module _ (g : LaunchGraph) (table : Table) (a : Allocation) (k : ℕ) (listed ls : List Launch) (is_table : IsTable table)
    (fit : Fits g table a k ls) (among : (l : Launch) → Contains ls l → Contains listed l) where
  abbrev spans : List (Option Span)
  spans = spans_of g listed

  row_in : (l : Launch) → Contains ls l → l.row < length g.rows + 1 + length g.sets
  row_in l h = (let u = used-at g table a k ls is_table fit l h in within g l.row u.instr u.instr_is)

  pub launch-span : (l : Launch) → Contains ls l
      → (s : Span) × (get_or spans l.row None ≡ Some s) × (s.first ≤ l.cycle) × (l.cycle ≤ s.last)
  launch-span l h = span-has g listed l (among l h) (row_in l h)

  -- a row that makes the class in the schedule is one of those that make it
  pub maker-row : (c : ℕ) (l : Launch) → Makes g ls c l → Contains (makers_of g spans c) l.row
  maker-row c l m =
      let lt = row_in l m.there in
      let s = launch-span l m.there in
      filter-in (λ row. (class_at g row == c) && (makes_own g row && can_come spans row)) (row_numbers g) l.row
      (range-in 0 (length g.rows + 1 + length g.sets) l.row (omega arith) (omega arith))
      (and_from (class_at g l.row == c) (makes_own g l.row && can_come spans l.row)
      (eq-eqb (class_at g l.row) c m.class)
      (and_from (makes_own g l.row) (can_come spans l.row) m.own (ap is_some s.1)))

  first_by : (c : ℕ) (l : Launch) → Makes g ls c l → (s : Span) → get_or spans l.row None ≡ Some s
      → first_made g table k spans c ≤ s.first
  first_by c l m s e =
      let is : first_of_row spans l.row ≡ s.first = ap (λ o. option_map_or (λ (s : Span). s.first) o 0) e in
      let le = least-below (map (first_of_row spans) (makers_of g spans c)) (first_of_row spans l.row)
      (map-in (first_of_row spans) (makers_of g spans c) l.row (maker-row c l m)) in
      omega arith

  -- it begins in its first cycle or later
  pub made-from : (c : ℕ) (l : Launch) → Makes g ls c l → first_made g table k spans c ≤ l.cycle
  made-from c l m =
      let s = launch-span l m.there in
      let le = first_by c l m s.0 s.1 in
      let s2 = s.2 in
      omega arith

  made_until : (c : ℕ) (l : Launch) → Makes g ls c l → l.cycle ≤ last_made g table k spans c
  made_until c l m =
      let s = launch-span l m.there in
      let is : last_of_row spans l.row ≡ (s.0).last = ap (λ o. option_map_or (λ (s : Span). s.last) o 0) s.1 in
      let le = greatest-above (map (last_of_row spans) (makers_of g spans c)) (last_of_row spans l.row)
      (map-in (last_of_row spans) (makers_of g spans c) l.row (maker-row c l m)) in
      let s3 = s.3 in
      omega arith

  -- ---- each due class is made

  at_guard : (c : ℕ) → can_be_due g c ≡ true → (o : Option Guard) → g.guard ≡ o
      → option_map_or (λ guard. guard.class == c) o false ≡ true
      → (l : Launch) × Contains ls l × (launches g is_branch l ≡ true) × (has (reads_of g l.row) c ≡ true)
  at_guard c due None e t = absurd (false≢true t)
  at_guard c due (Some guard) e t =
      let one : count_by (launches g is_branch) ls ≡ 1 =
      subst (λ o. IfSome o (λ _. count_by (launches g is_branch) ls ≡ 1)) e fit.one_branch in
      let b = counted-one (launches g is_branch) ls one in
      let i = test-some (instr_at g (b.0).row) is_branch b.2 in
      let row : (b.0).row ≡ length g.rows = branch-row g (b.0).row i.0 i.1 i.2 in
      let class : guard.class ≡ c = eqb-true guard.class c t in
      let held : is_free g (plain guard.class) ≡ false =
      or_from (is_zero_class g guard.class) false
      (ap (is_zero_class g) class ∙ no-zero g table a k ls is_table fit c due) refl in
      let operands : operands_at g (b.0).row ≡ plain guard.class ∷ [] =
      ap (operands_at g) row ∙ guard_reads (length g.rows == length g.rows)
      (eq-eqb (length g.rows) (length g.rows) refl)
      (option_map_or copy_operands (copied_at g (length g.rows)) (row_operands (slice_get g.rows (length g.rows))))
      guard e in (
        b.0,
        b.1,
        b.2,
        reads-operand g (b.0).row c (plain guard.class)
            (subst (λ (os : List Operand). Contains os (plain guard.class)) (sym operands)
            (here (plain guard.class) [])) held
            class,
      )
    where
      guard_reads : (b : Bool) → b ≡ true → (os : List Operand) (guard : Guard) → g.guard ≡ Some guard
          → cond b (guard_operands g.guard) os ≡ plain guard.class ∷ []
      guard_reads true t os guard e = ap guard_operands e
      guard_reads false t os guard e = absurd (false≢true t)

  always_by : (d c : ℕ) → always_reads g spans d c ≡ true → (l : Launch) → Makes g ls d l → has (reads_of g l.row) c
      ≡ true
  always_by d c h l m =
      let p = and_parts (is_made g spans d) (list_all (λ row. has (reads_of g row) c) (makers_of g spans d)) h in
      all-at (λ row. has (reads_of g row) c) (makers_of g spans d) l.row p.1 (maker-row d l m)

  target_given : (c : ℕ) → can_be_due g c ≡ true → (s : SetClass) → s.class ≡ c → (j : ℕ) → slice_get g.sets j ≡ Some s
      → (o : Option ℕ) → IsWhereWanted g ls j s o → (l : Launch) × Contains ls l × Gives g c l
  target_given c due s is j at None (inl (n, i, lt, e, (same, u))) =
      absurd (false≢true (sym (no-input g table a k ls is_table fit c due) ∙ input-from g c (n, i, lt, e, same ∙ is)))
  target_given c due s is j at None (inr (inl z)) =
      absurd (false≢true (sym (no-zero g table a k ls is_table fit c due) ∙ ap (is_zero_class g) (sym is)
      ∙ zero-from g s.class z))
  target_given c due s is j at None (inr (inr (n, l, lt, e, gave))) = (l, (n, lt, e), (gave.0, gave.1 ∙ is))
  target_given c due s is j at (Some pin) (inr (z, (n, i, lt, e, (same, u)))) =
      absurd (false≢true (sym (no-input g table a k ls is_table fit c due) ∙ input-from g c (n, i, lt, e, same ∙ is)))
  target_given c due s is j at (Some pin) (inl one) =
      let b = counted-one (goes_to j) ls one in
      let goes = subst (CanGoTo g a ls b.0) (goes_from g j b.0 b.2)
      (All-contains (CanGo g a ls) ls b.0 fit.destinations b.1) in
      let set = some-and (slice_get g.sets j) (λ s. IsSomeAnd s.pin (CanGoToPin g a ls b.0 s)) goes in
      let pinned = some-and (set.0).pin (CanGoToPin g a ls b.0 set.0) set.2 in
      let gave = (pinned.2).gives in
      let same : (set.0).class ≡ c = ap (λ (s : SetClass). s.class) (same_Some set.0 s (sym set.1 ∙ at)) ∙ is in
      (b.0, b.1, (gave.0, gave.1 ∙ same))

  word_given : (c : ℕ) → can_be_due g c ≡ true → (s : SetClass) → Contains g.sets s → is_memory_name s.name ≡ false
      → s.class ≡ c → (l : Launch) × Contains ls l × Gives g c l
  word_given c due s h word is =
      let at : slice_get g.sets h.0 ≡ Some s = slice_get-get_or g.sets h.0 s h.1 ∙ ap Some h.2 in
      elim (fit.targets h.0 s at) [
        | inl m ↦ absurd (false≢true (sym word ∙ m))
        | inr w ↦ target_given c due s is h.0 at s.pin w
      ]

  ends_below : (l : Launch) → Contains ls l → l.cycle < k
  ends_below l h =
      let u = used-at g table a k ls is_table fit l h in
      let known = use-known g table a k ls is_table fit u.instr u.used u.use_is in
      let latency = latency-by g table a k ls is_table fit l u in
      let some = (known.latency).0 in
      let ends = All-contains (EndsBy g table k) ls l fit.in_time h in
      omega arith

  memory_left : IsLeft g ls k (memory_target g)
  memory_left = (fit.memory).last k (All-from_members (λ (l : Launch). l.cycle < k) ls ends_below)

  given_plain : (c : ℕ) (l : Launch) → Gives g c l → row_is g is_branch l.row ≡ false
  given_plain c l gave =
      let w = test-some (instr_at g l.row) gives_word gave.0 in
      ap (λ o. option_map_or is_branch o false) w.1 ∙ word-plain w.0 w.2

  asked_made : (c : ℕ) → can_be_due g c ≡ true → is_asked_for g c ≡ true → (m : Launch) × Makes g ls c m
  asked_made c due asked =
      elim (or_cases (list_any (λ (s : SetClass). not (is_memory_name s.name) && (s.class == c)) g.sets)
      ((memory_target g == c) || option_map_or (λ guard. guard.class == c) g.guard false) asked) [
        | inl t ↦ (
            let s = some_of (λ (s : SetClass). not (is_memory_name s.name) && (s.class == c)) g.sets t in
            let p = and_parts (not (is_memory_name (s.0).name)) ((s.0).class == c) s.2 in
            let l = word_given c due s.0 s.1 (not-true (is_memory_name (s.0).name) p.0) (eqb-true (s.0).class c p.1) in
            given-made g table a k ls is_table fit c due l.0 l.1 (given_plain c l.0 l.2) (l.2).1)
        | inr r ↦ elim (or_cases (memory_target g == c) (option_map_or (λ guard. guard.class == c) g.guard false) r) [
          | inl t ↦ (
              let m =
              left-comes g table a k ls is_table fit c due k
              (subst (IsLeft g ls k) (eqb-true (memory_target g) c t) memory_left) in
              let is = m.1 in
              given-made g table a k ls is_table fit c due m.0 is.there is.plain is.class)
          | inr t ↦ (
              let b = at_guard c due g.guard refl t in
              let m = read-made g table a k ls is_table fit c due b.0 b.1 b.3 in
              (m.0, m.1))
        ]
      ]

  -- each due class is made
  pub due-made : (n c : ℕ) → Contains (due_within g spans n) c → (m : Launch) × Makes g ls c m
  due-made zero c h =
      let t = (filter-out (λ c. can_be_due g c && is_asked_for g c) (classes_of g) c h).1 in
      let p = and_parts (can_be_due g c) (is_asked_for g c) t in
      asked_made c p.0 p.1
  due-made (suc n) c h =
      let due = due_within g spans n in
      let test = λ (c : ℕ). has due c || (can_be_due g c && list_any (λ (d : ℕ). always_reads g spans d c) due) in
      elim (or_cases (has due c) (can_be_due g c && list_any (λ (d : ℕ). always_reads g spans d c) due)
      (filter-out test (classes_of g) c h).1) [
        | inl t ↦ due-made n c (has-out due c t)
        | inr t ↦ (
            let p = and_parts (can_be_due g c) (list_any (λ (d : ℕ). always_reads g spans d c) due) t in
            let d = some_of (λ (d : ℕ). always_reads g spans d c) due p.1 in
            let l = due-made n d.0 d.1 in
            let m = read-made g table a k ls is_table fit c p.0 l.0 (l.1).there (always_by d.0 c d.2 l.0 l.1) in
            (m.0, m.1))
      ]

  -- ---- deadlines

  -- a launch makes the class by the cycle
  abbrev pub MadeBy : ℕ → ℕ → Type 0
  MadeBy c t = (l : Launch) × Makes g ls c l × (l.cycle ≤ t)

  min_by : (c s t : ℕ) → MadeBy c s → MadeBy c t → MadeBy c (min s t)
  min_by c s t (l, m, le) (l2, m2, le2) = elim (cases_lt s t) [
    | inl lt ↦ (l, m, (let z : l.cycle ≤ min s t = omega arith in z))
    | inr ge ↦ (l2, m2, (let z : l2.cycle ≤ min s t = omega arith in z))
  ]

  later_by : (c s t : ℕ) → s ≤ t → MadeBy c s → MadeBy c t
  later_by c s t le (l, m, lt) = (l, m, (let z : l.cycle ≤ t = omega arith in z))

  delay_below : (c : ℕ) (l : Launch) → Makes g ls c l → (d : ℕ) → delay_at g table l.row ≡ Some d
      → least_delay g table k spans c ≤ d
  delay_below c l m d e =
      let of = λ (row : ℕ). unwrap_or (delay_at g table row) 0 in
      let is : of l.row ≡ d = ap (λ o. unwrap_or o 0) e in
      let le = least-below (map of (makers_of g spans c)) (of l.row)
      (map-in of (makers_of g spans c) l.row (maker-row c l m)) in
      omega arith

  -- what a launch reads was made so much before it
  read_by : (c : ℕ) → can_be_due g c ≡ true → (l : Launch) → Contains ls l → has (reads_of g l.row) c ≡ true
      → MadeBy c (l.cycle - least_delay g table k spans c)
  read_by c due l h r =
      let m = read-made g table a k ls is_table fit c due l h r in
      let comes = m.2 in
      let before = comes.before in
      let least = delay_below c m.0 m.1 comes.delay comes.delay_is in
      (m.0, m.1, (let z : (m.0).cycle ≤ l.cycle - least_delay g table k spans c = omega arith in z))

  own_by : (c : ℕ) → can_be_due g c ≡ true → (m : Launch) → Makes g ls c m → (b : Bool) → is_guard g c ≡ b
      → MadeBy c (cond b (max (first_made g table k spans c)
      (min (last_made g table k spans c) (before_branch g table k spans c)))
      (last_made g table k spans c))
  own_by c due m made false e = (m, made, made_until c m made)
  own_by c due m made true e =
      let b = at_guard c due g.guard refl e in
      let by = read_by c due b.0 b.1 b.3 in
      let i = test-some (instr_at g (b.0).row) is_branch b.2 in
      let beq : instr_at g (b.0).row ≡ Some Beq = i.1 ∙ ap Some (beq-is i.0 i.2) in
      let latency : unwrap_or (latency_of table (unwrap_or (instr_at g (b.0).row) Beq)) 0
      ≡ unwrap_or (latency_of table Beq) 0 =
      ap (λ o. unwrap_or (latency_of table (unwrap_or o Beq)) 0) beq in
      let ends = All-contains (EndsBy g table k) ls b.0 fit.in_time b.1 in
      let until = made_until c by.0 by.1 in
      let le = by.2 in (
        by.0,
        by.1,
        (let z : (by.0).cycle ≤ max (first_made g table k spans c)
            (min (last_made g table k spans c) (before_branch g table k spans c)) = omega arith in z),
      )

  -- the schedule meets the deadline
  pub record Meets (x : Deadline) : Type 0 where
    pub due : can_be_due g x.class ≡ true
    pub first : x.first ≡ first_made g table k spans x.class
    pub by : MadeBy x.class x.last

  sooner_by : (x : Deadline) → can_be_due g x.class ≡ true → (last : ℕ) (r : Deadline) → Meets r → MadeBy x.class last
      → MadeBy x.class (sooner g table k spans x last r)
  sooner_by x due last r meets made = by_case (always_reads g spans r.class x.class) refl
    where
      by_case : (b : Bool) → always_reads g spans r.class x.class ≡ b
          → MadeBy x.class (cond b (max x.first (min last (r.last - least_delay g table k spans x.class))) last)
      by_case false e = made
      by_case true e =
          let l = meets.by in
          let le = l.2 in
          let by = read_by x.class due l.0 (l.1).there (always_by r.class x.class e l.0 l.1) in
          let least = least_delay g table k spans x.class in
          later_by x.class (min last (r.last - least)) (max x.first (min last (r.last - least))) (omega arith)
          (min_by x.class last (r.last - least) made
          (later_by x.class ((l.0).cycle - least) (r.last - least) (omega arith) by))

  lowered_by : (x : Deadline) → can_be_due g x.class ≡ true → (readers : List Deadline)
      → ((r : Deadline) → Contains readers r → Meets r) → (last : ℕ) → MadeBy x.class last
      → MadeBy x.class (fold (sooner g table k spans x) last readers)
  lowered_by x due [] meet last made = made
  lowered_by x due (r ∷ rs) meet last made =
      lowered_by x due rs (λ s h. meet s (later r s rs h)) (sooner g table k spans x last r)
      (sooner_by x due last r (meet r (here r rs)) made)

  meets-within : (n : ℕ) (x : Deadline) → Contains (deadlines_within g table k spans n) x → Meets x
  meets-within zero x h =
      let c = map-out (own_deadline g table k spans) (filter (is_made g spans) (due_classes g spans)) x h in
      let there = (filter-out (is_made g spans) (due_classes g spans) c.0 c.1).0 in
      let due = due_front g spans (next_class g.rows) c.0 there in
      let made = due-made (next_class g.rows) c.0 there in
      subst Meets c.2 (record { due = due; first = refl; by = own_by c.0 due made.0 made.1 (is_guard g c.0) refl })
  meets-within (suc n) x h =
      let xs = deadlines_within g table k spans n in
      let y = map-out (lowered g table k spans xs) xs x h in
      let meets = meets-within n y.0 y.1 in
      subst Meets y.2 (record {
        due = meets.due;
        first = meets.first;
        by = lowered_by y.0 meets.due xs (meets-within n) (y.0).last meets.by;
      })

  -- the schedule meets each deadline
  pub all-met : (x : Deadline) → Contains (deadlines g table k spans) x → Meets x
  all-met x h = meets-within k x h
