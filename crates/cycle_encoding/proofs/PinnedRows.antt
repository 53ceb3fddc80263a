-- What the instruction of a launch says of its row, or of the set of which it launches a copy.
use Rattle.std.proofs.Common.{◌≡◌, ℕ, ◌+◌, ◌-◌, ◌<◌, Bool, true, false, cond, length, refl, sym, ap, ◌∙◌, subst, arith, inl, inr, Option, Some, None}
use Rattle.std.specs.Prelude.{◌||◌, ◌==◌, is_some, nat_lt, Contains, option_and_then, option_map, slice_get}
use Rattle.std.specs.Option.{option_map_or}
use Rattle.std.proofs.lemmas.Bool.{false≢true, cases_Bool, cases_lt, eqb-true}
use Rattle.std.proofs.lemmas.Bool.Decides.{Decides-ltb}
use Rattle.std.proofs.lemmas.Option.{get_or_from_slice_get}
use Rattle.std.proofs.lemmas.List.Elements.{All-contains}
use Rattle.word_ops.specs.Meanings.{sort_of, takes_memory}
use Rattle.word_ops.specs.declared.sorts.Sort.TheVariants as sort
use Rattle.graph_meaning.specs.Graphs.{is_memory_name}
use Rattle.graph_meaning.specs.WellFormed.{ClassHasSort, IsLaunchGraph, next_class}
use Rattle.schedule_meaning.specs.Launches.{instr_at, launches, gives_word, is_store, is_load, op_instr, class_at, copied_at, pinned_class}
use Rattle.machine_table.specs.declared.tables.InstrKind.{InstrKind}
use Rattle.word_ops.specs.declared.operates.Operate.TheVariants.{Bis}
use Rattle.machine_table.specs.declared.tables.InstrKind.TheVariants.{Operate, Beq}
use Rattle.graph_meaning.specs.declared.graphs.LaunchGraph.{LaunchGraph}
use Rattle.graph_meaning.specs.declared.graphs.LaunchRow.{LaunchRow}
use Rattle.graph_meaning.specs.declared.graphs.SetClass.{SetClass}
use Rattle.graph_meaning.specs.declared.graphs.Guard.{Guard}
use Rattle.schedule_meaning.specs.declared.schedules.Launch.{Launch}
use Rattle.schedule_meaning.proofs.Rules.{in_list}
use Rattle.schedule_meaning.proofs.Copies.{copy_class, plain_kind}
use Rattle.cycle_encoding.specs.Variables.{is_word_class}
use Rattle.cycle_encoding.proofs.RowFacts.{none_some, some_is, got, past, test-some, then-some, op_fits, word_class, at_row}

module _ (g : LaunchGraph) where
  guard_instr : (o : Option Guard) (i : InstrKind) → option_map (λ _. Beq) o ≡ Some i → Beq ≡ i
  guard_instr None i h = absurd (none_some i h)
  guard_instr (Some x) i h = some_is Beq i h

  Row : (InstrKind → Bool) → ℕ → Type 0
  Row test row = (r : LaunchRow) × (i : InstrKind) × (slice_get g.rows row ≡ Some r) × (op_instr g r.op r.operands ≡ Some i) × (test i ≡ true)

  row_in : (test : InstrKind → Bool) → test Beq ≡ false → test (Operate Bis) ≡ false → (row : ℕ) (b : Bool) (c : Option ℕ) (i : InstrKind) → cond b (option_map (λ _. Beq) g.guard) (option_map_or (λ class. Some (Operate Bis)) c (option_and_then (λ r. op_instr g r.op r.operands) (slice_get g.rows row))) ≡ Some i → test i ≡ true → Row test row
  unfolding Row
  row_in test f n row true c i h t = absurd (false≢true (sym f ∙ ap test (guard_instr g.guard i h) ∙ t))
  row_in test f n row false (Some class) i h t = absurd (false≢true (sym n ∙ ap test (some_is (Operate Bis) i h) ∙ t))
  row_in test f n row false None i h t = (let r = then-some (slice_get g.rows row) (λ r. op_instr g r.op r.operands) i h in (r.0, i, r.1, r.2, t))

  row_of : (test : InstrKind → Bool) → test Beq ≡ false → test (Operate Bis) ≡ false → (l : Launch) → launches g test l ≡ true → Row test l.row
  row_of test f n l h = (let i = test-some (instr_at g l.row) test h in row_in test f n l.row (l.row == length g.rows) (copied_at g l.row) i.0 i.1 i.2)

  plain_in : (test : InstrKind → Bool) → test Beq ≡ false → (row : ℕ) (b : Bool) (i : InstrKind) → cond b (option_map (λ _. Beq) g.guard) (option_and_then (λ r. op_instr g r.op r.operands) (slice_get g.rows row)) ≡ Some i → test i ≡ true → Row test row
  unfolding Row
  plain_in test f row true i h t = absurd (false≢true (sym f ∙ ap test (guard_instr g.guard i h) ∙ t))
  plain_in test f row false i h t = (let r = then-some (slice_get g.rows row) (λ r. op_instr g r.op r.operands) i h in (r.0, i, r.1, r.2, t))

  -- the same of a launch of no copy
  plain_row_of : (test : InstrKind → Bool) → test Beq ≡ false → (l : Launch) → copied_at g l.row ≡ None → launches g test l ≡ true → Row test l.row
  plain_row_of test f l none h =
      let i = test-some (instr_at g l.row) test h in
      plain_in test f l.row (l.row == length g.rows) i.0 (sym (plain_kind g l.row none) ∙ i.1) i.2

  set_within : (j : ℕ) (o : Option SetClass) → slice_get g.sets j ≡ o → (class : ℕ) → pinned_class o ≡ Some class → (s : SetClass) × (slice_get g.sets j ≡ Some s) × (s.class ≡ class) × (is_some s.pin ≡ true)
  set_within j None e class h = absurd (none_some class h)
  set_within j (Some s) e class h = (let p = pin_there s.pin s.class class h in (s, e, p.0, p.1))
    where
      pin_there : (o : Option ℕ) (c class : ℕ) → option_map (λ r. c) o ≡ Some class → (c ≡ class) × (is_some o ≡ true)
      pin_there None c class h = absurd (none_some class h)
      pin_there (Some r) c class h = (some_is c class h, refl)

  copied_by : (row : ℕ) (b : Bool) → (b ≡ true → length g.rows < row) → (class : ℕ) → cond b (pinned_class (slice_get g.sets (row - (length g.rows + 1)))) None ≡ Some class → (length g.rows < row) × ((s : SetClass) × (slice_get g.sets (row - (length g.rows + 1)) ≡ Some s) × (s.class ≡ class) × (is_some s.pin ≡ true))
  copied_by row true f class h = (f refl, set_within (row - (length g.rows + 1)) (slice_get g.sets (row - (length g.rows + 1))) refl class h)
  copied_by row false f class h = absurd (none_some class h)

  -- a copy is that of a set with a pin
  pub copied : (row class : ℕ) → copied_at g row ≡ Some class → (length g.rows < row) × ((s : SetClass) × (slice_get g.sets (row - (length g.rows + 1)) ≡ Some s) × (s.class ≡ class) × (is_some s.pin ≡ true))
  copied row class h = copied_by row (nat_lt (length g.rows) row) (Decides-ltb (length g.rows) row).0 class h

  row_within : (row : ℕ) (b : Bool) → (row == length g.rows) ≡ b → (i : InstrKind) → cond b (option_map (λ _. Beq) g.guard) (option_and_then (λ r. op_instr g r.op r.operands) (slice_get g.rows row)) ≡ Some i → row < length g.rows + 1
  row_within row true e i h = (let same = eqb-true row (length g.rows) e in omega arith)
  row_within row false e i h =
      let r = then-some (slice_get g.rows row) (λ r. op_instr g r.op r.operands) i h in
      elim (cases_lt row (length g.rows)) [
        | inl lt ↦ omega arith
        | inr le ↦ absurd (none_some r.0 (sym (past g.rows row le) ∙ r.1))
      ]

  within_by : (row : ℕ) (i : InstrKind) (c : Option ℕ) → copied_at g row ≡ c → instr_at g row ≡ Some i → row < length g.rows + 1 + length g.sets
  within_by row i (Some class) e h =
      let s = copied row class e in
      let a : length g.rows < row = s.0 in
      let b : row - (length g.rows + 1) < length g.sets = in_list g.sets (row - (length g.rows + 1)) s.1.0 s.1.1 in
      omega arith
  within_by row i None e h = (let a = row_within row (row == length g.rows) refl i (sym (plain_kind g row e) ∙ h) in omega arith)

  pub within : (row : ℕ) (i : InstrKind) → instr_at g row ≡ Some i → row < length g.rows + 1 + length g.sets
  within row i h = within_by row i (copied_at g row) refl h

  -- ---- classes

  pub word-sort : (c : ℕ) → ClassHasSort g sort.Word c → (is_word_class g c ≡ true) × (c < next_class g.rows)
  word-sort c (k, r, lt, e, h) = subst (λ c. (is_word_class g c ≡ true) × (c < next_class g.rows)) h.0 (word_class g r (k, lt, e) h.1)

  -- the class of a pinned set is a word's
  copy_word : IsLaunchGraph g → (s : SetClass) → Contains g.sets s → is_some s.pin ≡ true → (is_word_class g s.class ≡ true) × (s.class < next_class g.rows)
  copy_word well s h t =
      let named : is_memory_name s.name ≡ false = (elim (cases_Bool (is_memory_name s.name)) [
        | inl m ↦ absurd (false≢true (sym (ap is_some (All-contains (λ s. is_memory_name s.name ≡ true → s.pin ≡ None) g.sets s well.memory_unpinned h m)) ∙ t))
        | inr f ↦ f
      ]) in
      let has : ClassHasSort g sort.Word s.class = subst (λ b. ClassHasSort g (cond b sort.Memory sort.Word) s.class) named (All-contains (λ s. ClassHasSort g (cond (is_memory_name s.name) sort.Memory sort.Word) s.class) g.sets s well.sets h) in
      word-sort s.class has

  -- a launch that gives a word is of a word class, and a store of a memory class
  word-by : IsLaunchGraph g → (l : Launch) (c : Option ℕ) → copied_at g l.row ≡ c → launches g gives_word l ≡ true → (is_word_class g (class_at g l.row) ≡ true) × (class_at g l.row < next_class g.rows)
  unfolding Row
  word-by well l (Some class) e h =
      let s = copied l.row class e in
      let at = (in_list g.sets (l.row - (length g.rows + 1)) s.1.0 s.1.1) in
      let here : Contains g.sets s.1.0 = (l.row - (length g.rows + 1), at, get_or_from_slice_get g.sets (l.row - (length g.rows + 1)) s.1.0 s.1.0 s.1.1) in
      subst (λ c. (is_word_class g c ≡ true) × (c < next_class g.rows)) (s.1.2 ∙ sym (copy_class g l.row class e)) (copy_word well s.1.0 here s.1.3)
  word-by well l None e h =
      let r = plain_row_of gives_word refl l e h in
      subst (λ c. (is_word_class g c ≡ true) × (c < next_class g.rows)) (sym (at_row g l.row r.0 r.2)) (word_class g r.0 (got g.rows l.row r.0 r.2) ((op_fits g r.0.op r.0.operands r.1 r.3).word r.4))

  pub word-launch : IsLaunchGraph g → (l : Launch) → launches g gives_word l ≡ true → (is_word_class g (class_at g l.row) ≡ true) × (class_at g l.row < next_class g.rows)
  word-launch well l h = word-by well l (copied_at g l.row) refl h

  -- ---- memory: the row of a store gives one, and that of a load or store takes one

  pub store-sort : (l : Launch) → launches g is_store l ≡ true → (r : LaunchRow) × (slice_get g.rows l.row ≡ Some r) × (sort_of r.op ≡ sort.Memory)
  unfolding Row
  store-sort l h = (let r = row_of is_store refl refl l h in (r.0, r.2, (op_fits g r.0.op r.0.operands r.1 r.3).store r.4))

  uses_any : (o : Option InstrKind) → (option_map_or is_load o false || option_map_or is_store o false) ≡ true → option_map_or (λ i. is_load i || is_store i) o false ≡ true
  uses_any None h = h
  uses_any (Some i) h = h

  pub memory-taken : (l : Launch) → (launches g is_load l || launches g is_store l) ≡ true → (r : LaunchRow) × (slice_get g.rows l.row ≡ Some r) × (takes_memory r.op ≡ true)
  unfolding Row
  memory-taken l h =
      let r = row_of (λ i. is_load i || is_store i) refl refl l (uses_any (instr_at g l.row) h) in
      (r.0, r.2, (op_fits g r.0.op r.0.operands r.1 r.3).memory r.4)
