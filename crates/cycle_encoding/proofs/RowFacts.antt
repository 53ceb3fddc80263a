-- What the instruction of a launch says of its row: which row it is, its class, and the sorts of what it gives and takes.
use Rattle.std.proofs.Common.{◌≡◌, ℕ, suc, zero, ◌+◌, ◌<◌, ◌≤◌, Bool, true, false, cond, List, [], ◌∷◌, length, get_or, refl, sym, ap, ◌∙◌, subst, arith, inl, inr, Option, Some, None, max}
use Rattle.std.specs.Prelude.{◌||◌, ◌&&◌, ◌==◌, is_some, Contains, option_and_then, option_map, slice_get, IsSomeAnd}
use Rattle.std.specs.Option.{option_map_or}
use Rattle.std.specs.List.{fold}
use Rattle.std.proofs.lemmas.Bool.{false≢true, cases_lt, eqb-true, eq-eqb, and_from, or_cases}
use Rattle.word_ops.specs.Meanings.{sort_of, takes_memory}
use Rattle.word_ops.specs.declared.sorts.Access.{Access}
use Rattle.word_ops.specs.declared.operators.WordOp.{WordOp}
use Rattle.word_ops.specs.declared.operators.WordOp.TheVariants as ops
use Rattle.word_ops.specs.declared.sorts.Op.{Op}
use Rattle.word_ops.specs.declared.sorts.Op.TheVariants.{Word, Select, Store, Load, Put}
use Rattle.word_ops.specs.declared.sorts.Sort.TheVariants as sort
use Rattle.machine_table.specs.InstrOrder.{operate_kind}
use Rattle.graph_meaning.specs.Graphs.{constant_of, HasNoPins}
use Rattle.graph_meaning.specs.WellFormed.{next_class}
use Rattle.schedule_meaning.specs.Launches.{instr_at, launches, gives_word, is_store, is_load, is_aligned, is_sum_aligned, word_op_instr, op_instr}
use Rattle.schedule_meaning.specs.Launches.{class_at}
use Rattle.machine_table.specs.declared.tables.InstrKind.{InstrKind}
use Rattle.machine_table.specs.declared.tables.InstrKind.TheVariants as kinds
use Rattle.graph_meaning.specs.declared.graphs.LaunchGraph.{LaunchGraph}
use Rattle.graph_meaning.specs.declared.graphs.LaunchRow.{LaunchRow}
use Rattle.graph_meaning.specs.declared.graphs.Guard.{Guard}
use Rattle.schedule_meaning.specs.declared.schedules.Launch.{Launch}
use Rattle.schedule_meaning.proofs.Copies.{plain_class, row_no_copy}
use Rattle.schedule_meaning.proofs.Unpinned.{plain_rows}
use Rattle.cycle_encoding.specs.Variables.{is_word, is_word_class}
use Rattle.cycle_encoding.proofs.Tests.{some_in}
use Rattle.cycle_encoding.proofs.Members.{here, later, either, nothing}

-- ---- options

pub none_some : {X : Type 0} (x : X) → None ≡ Some x → ⊥
none_some x h = cc

pub some_is : {X : Type 0} (x y : X) → Some x ≡ Some y → x ≡ y
some_is x y h = cc

module _ {X : Type 0} where
  pub got : (xs : List X) (i : ℕ) (x : X) → slice_get xs i ≡ Some x → Contains xs x
  got [] i x e = absurd (none_some x e)
  got (y ∷ xs) zero x e = subst (λ z. Contains (y ∷ xs) z) (some_is y x e) (here y xs)
  got (y ∷ xs) (suc i) x e = later y x xs (got xs i x e)

  pub past : (xs : List X) (i : ℕ) → length xs ≤ i → slice_get xs i ≡ None
  past [] i le = refl
  past (x ∷ xs) zero le = absurd (let z : length (x ∷ xs) ≡ suc (length xs) = refl in omega (arith, z))
  past (x ∷ xs) (suc i) le = past xs i (let z : length (x ∷ xs) ≡ suc (length xs) = refl in omega (arith, z))

  pub some-and : (o : Option X) (P : X → Type 0) → IsSomeAnd o P → (x : X) × (o ≡ Some x) × P x
  some-and None P h = absurd h
  some-and (Some x) P h = (x, refl, h)

  pub test-some : (o : Option X) (test : X → Bool) → option_map_or test o false ≡ true → (x : X) × (o ≡ Some x) × (test x ≡ true)
  test-some None test h = absurd (false≢true h)
  test-some (Some x) test h = (x, refl, h)

  pub then-some : {Y : Type 0} (o : Option X) (f : X → Option Y) (y : Y) → option_and_then f o ≡ Some y → (x : X) × (o ≡ Some x) × (f x ≡ Some y)
  then-some None f y h = absurd (none_some y h)
  then-some (Some x) f y h = (x, refl, h)

cond_some : {X : Type 0} (b : Bool) (x y : X) → cond b (Some x) None ≡ Some y → x ≡ y
cond_some true x y h = some_is x y h
cond_some false x y h = absurd (none_some y h)

sum_some : {X : Type 0} (a b : Bool) (x y : X) → cond a (cond b (Some x) None) None ≡ Some y → x ≡ y
sum_some true b x y h = cond_some b x y h
sum_some false b x y h = absurd (none_some y h)

-- ---- instructions and operators

stores_none : (op : WordOp) → option_map_or is_store (operate_kind op) false ≡ false
stores_none ops.Neg = refl
stores_none _ = refl

loads_none : (op : WordOp) → option_map_or is_load (operate_kind op) false ≡ false
loads_none ops.Neg = refl
loads_none _ = refl

-- what an operator's instruction says of its sorts
pub record HasSorts (op : Op) (i : InstrKind) : Type 0 where
  pub word : gives_word i ≡ true → sort_of op ≡ sort.Word
  pub store : is_store i ≡ true → sort_of op ≡ sort.Memory
  pub memory : (is_load i || is_store i) ≡ true → takes_memory op ≡ true

module _ (g : LaunchGraph) where
  word_kind : (op : WordOp) (j : InstrKind) → is_store j ≡ false → is_load j ≡ false → HasSorts (Word op) j
  word_kind op j s l = record {
    word = λ h. refl;
    store = λ h. absurd (false≢true (sym s ∙ h));
    memory = λ h. absurd (elim (or_cases (is_load j) (is_store j) h) [ inl a ↦ false≢true (sym l ∙ a) | inr b ↦ false≢true (sym s ∙ b) ]);
  }

  load_kind : (op : Op) (access : Access) → sort_of op ≡ sort.Word → takes_memory op ≡ true → HasSorts op (kinds.Load access)
  load_kind op access w m = record { word = λ h. w; store = λ h. absurd (false≢true h); memory = λ h. m }

  store_kind : (op : Op) (access : Access) → sort_of op ≡ sort.Memory → takes_memory op ≡ true → HasSorts op (kinds.Store access)
  store_kind op access w m = record { word = λ h. absurd (false≢true h); store = λ h. w; memory = λ h. m }

  word_fits : (op : WordOp) (operands : List ℕ) (i : InstrKind) → word_op_instr g op operands ≡ Some i → HasSorts (Word op) i
  word_fits ops.Lda operands i h = subst (λ i. HasSorts (Word ops.Lda) i) (cond_some (is_some (constant_of g (get_or operands 1 0))) kinds.Lda i h) (word_kind ops.Lda kinds.Lda refl refl)
  word_fits ops.Ldah operands i h = subst (λ i. HasSorts (Word ops.Ldah) i) (cond_some (is_some (constant_of g (get_or operands 1 0))) kinds.Ldah i h) (word_kind ops.Ldah kinds.Ldah refl refl)
  word_fits op operands i h =
      word_kind op i (ap (λ q. option_map_or is_store q false) (sym h) ∙ stores_none op) (ap (λ q. option_map_or is_load q false) (sym h) ∙ loads_none op)

  pub op_fits : (op : Op) (operands : List ℕ) (i : InstrKind) → op_instr g op operands ≡ Some i → HasSorts op i
  op_fits (Word op) operands i h = word_fits op operands i h
  op_fits (Select access) operands i h =
      subst (HasSorts (Select access)) (cond_some (is_aligned g access operands) (kinds.Load access) i h)
      (load_kind (Select access) access refl refl)
  op_fits (Store access) operands i h =
      subst (HasSorts (Store access)) (cond_some (is_aligned g access operands) (kinds.Store access) i h)
      (store_kind (Store access) access refl refl)
  op_fits (Load access) operands i h =
      subst (HasSorts (Load access))
      (sum_some (is_sum_aligned g access operands) (is_some (constant_of g (get_or operands 2 0))) (kinds.Load access) i h)
      (load_kind (Load access) access refl refl)
  op_fits (Put access) operands i h =
      subst (HasSorts (Put access))
      (sum_some (is_sum_aligned g access operands) (is_some (constant_of g (get_or operands 2 0))) (kinds.Store access) i h)
      (store_kind (Put access) access refl refl)
  op_fits op operands i h = absurd (none_some i h)

  word_memory : sort.Word ≡ sort.Memory → ⊥
  word_memory h = cc

  -- ---- the row of a launch

  guard_instr : (o : Option Guard) (i : InstrKind) → option_map (λ _. kinds.Beq) o ≡ Some i → kinds.Beq ≡ i
  guard_instr None i h = absurd (none_some i h)
  guard_instr (Some x) i h = some_is kinds.Beq i h

  Row : (InstrKind → Bool) → ℕ → Type 0
  Row test row = (r : LaunchRow) × (i : InstrKind) × (slice_get g.rows row ≡ Some r) × (op_instr g r.op r.operands ≡ Some i) × (test i ≡ true)

  row_in : (test : InstrKind → Bool) → test kinds.Beq ≡ false → (row : ℕ) (b : Bool) (i : InstrKind) → cond b (option_map (λ _. kinds.Beq) g.guard) (option_and_then (λ r. op_instr g r.op r.operands) (slice_get g.rows row)) ≡ Some i → test i ≡ true → Row test row
  unfolding Row
  row_in test f row true i h t = absurd (false≢true (sym f ∙ ap test (guard_instr g.guard i h) ∙ t))
  row_in test f row false i h t = (let r = then-some (slice_get g.rows row) (λ r. op_instr g r.op r.operands) i h in (r.0, i, r.1, r.2, t))

  -- where no set has a pin, no row's number is a copy's
  row_of : HasNoPins g → (test : InstrKind → Bool) → test kinds.Beq ≡ false → (l : Launch) → launches g test l ≡ true → Row test l.row
  row_of plain test f l h =
      let i = test-some (instr_at g l.row) test h in
      row_in test f l.row (l.row == length g.rows) i.0 (sym (plain_rows g plain l.row).0 ∙ i.1) i.2

  row_within : (row : ℕ) (b : Bool) → (row == length g.rows) ≡ b → (i : InstrKind) → cond b (option_map (λ _. kinds.Beq) g.guard) (option_and_then (λ r. op_instr g r.op r.operands) (slice_get g.rows row)) ≡ Some i → row < length g.rows + 1
  row_within row true e i h = (let same = eqb-true row (length g.rows) e in omega arith)
  row_within row false e i h =
      let r = then-some (slice_get g.rows row) (λ r. op_instr g r.op r.operands) i h in
      elim (cases_lt row (length g.rows)) [
        | inl lt ↦ omega arith
        | inr le ↦ absurd (none_some r.0 (sym (past g.rows row le) ∙ r.1))
      ]

  pub within : HasNoPins g → (row : ℕ) (i : InstrKind) → instr_at g row ≡ Some i → row < length g.rows + 1
  within plain row i h = row_within row (row == length g.rows) refl i (sym (plain_rows g plain row).0 ∙ h)

  -- ---- classes

  fold_from : (rows : List LaunchRow) (n : ℕ) → n ≤ fold (λ n r. max n (r.class + 1)) n rows
  fold_from [] n = omega arith
  fold_from (r ∷ rows) n = (let h = fold_from rows (max n (r.class + 1)) in omega arith)

  fold_above : (rows : List LaunchRow) (n : ℕ) (r : LaunchRow) → Contains rows r → r.class < fold (λ n r. max n (r.class + 1)) n rows
  fold_above [] n r h = absurd (nothing r h)
  fold_above (s ∷ rows) n r h =
      elim (either s r rows h) [
        | inl e ↦ (let same : s.class ≡ r.class = ap (λ (x : LaunchRow). x.class) e in let h = fold_from rows (max n (s.class + 1)) in omega arith)
        | inr c ↦ fold_above rows (max n (s.class + 1)) r c
      ]

  pub class-below : (r : LaunchRow) → Contains g.rows r → r.class < next_class g.rows
  class-below r h = fold_above g.rows 0 r h

  pub word_class : (r : LaunchRow) → Contains g.rows r → sort_of r.op ≡ sort.Word → (is_word_class g r.class ≡ true) × (r.class < next_class g.rows)
  word_class r h e = (
    some_in (λ s. s.class == r.class && is_word (sort_of s.op)) g.rows r h (and_from (r.class == r.class) (is_word (sort_of r.op)) (eq-eqb r.class r.class refl) (ap is_word e)),
    class-below r h,
  )

  pub at_row : (row : ℕ) (r : LaunchRow) → slice_get g.rows row ≡ Some r → class_at g row ≡ r.class
  at_row row r e = plain_class g row (row_no_copy g row r e) ∙ ap (λ o. option_map_or (λ (r : LaunchRow). r.class) o 0) e

  -- a launch that gives a word is of a word class
  pub word-launch : HasNoPins g → (l : Launch) → launches g gives_word l ≡ true → (is_word_class g (class_at g l.row) ≡ true) × (class_at g l.row < next_class g.rows)
  unfolding Row
  word-launch plain l h =
      let r = row_of plain gives_word refl l h in
      subst (λ c. (is_word_class g c ≡ true) × (c < next_class g.rows)) (sym (at_row l.row r.0 r.2)) (word_class r.0 (got g.rows l.row r.0 r.2) ((op_fits r.0.op r.0.operands r.1 r.3).word r.4))
