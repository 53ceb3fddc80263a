-- Tests and what they say; places that pass a test.
use Rattle.std.proofs.Common.{◌≡◌, ℕ, suc, zero, ◌<◌, ◌≤◌, Bool, true, false, cond, List, [], ◌∷◌, length, get_or, refl, sym, ap, ◌∙◌, arith, inl, inr, Option, Some, None}
use Rattle.std.specs.Prelude.{◌&&◌, ◌==◌, nat_le, Any, Contains, option_and_then, option_map, slice_get, is_some}
use Rattle.std.specs.Option.{option_map_or}
use Rattle.std.specs.List.{All, filter, list_any, count_by}
use Rattle.std.proofs.lemmas.Bool.{false≢true, cases_order, eqb-true, leb-true, eq-eqb, le-leb, and_parts, or_cases, and_from, or_left, or_right}
use Rattle.std.proofs.lemmas.List.{get_or_default}
use Rattle.std.proofs.lemmas.List.Sums.{sum_by-cons, get_or-le-sum_by}
use Rattle.std.proofs.lemmas.List.Folds.{Any-from_list_any, list_any-from_Any}
use Rattle.std.proofs.lemmas.List.Elements.{All-nil, All-cons, All-head, All-tail}
use Rattle.word_ops.specs.declared.operators.WordOp.{WordOp}
use Rattle.word_ops.specs.declared.operators.WordOp.TheVariants as ops
use Rattle.word_ops.specs.declared.sorts.Op.{Op}
use Rattle.word_ops.specs.declared.sorts.Op.TheVariants.{Word, Select, Store, Load, Put}
use Rattle.machine_table.specs.InstrOrder.{operate_kind}
use Rattle.graph_meaning.specs.Graphs.{constant_of, is_zero_class}
use Rattle.schedule_meaning.specs.Launches.{instr_at, copied_at, launches, gives_word, is_branch, is_aligned, is_sum_aligned, word_op_instr}
use Rattle.schedule_meaning.specs.Launches.{op_instr, class_at, IsZero, IsByteConstant, IsFree, IsClassOfInput, Gives}
use Rattle.schedule_meaning.specs.Launches.{gives}
use Rattle.schedule_meaning.specs.declared.schedules.Operand.{Operand}
use Rattle.machine_table.specs.declared.tables.InstrKind.{InstrKind}
use Rattle.word_ops.specs.declared.operates.Operate.TheVariants.{Bis}
use Rattle.machine_table.specs.declared.tables.InstrKind.TheVariants as kinds
use Rattle.graph_meaning.specs.declared.graphs.LaunchGraph.{LaunchGraph}
use Rattle.graph_meaning.specs.declared.graphs.LaunchRow.{LaunchRow}
use Rattle.graph_meaning.specs.declared.graphs.Guard.{Guard}
use Rattle.schedule_meaning.specs.declared.schedules.Launch.{Launch}
use Rattle.cycle_encoding.specs.Variables.{is_input, is_byte}
use Rattle.cycle_encoding.specs.Families.{is_free}

-- ---- a thing of a list that passes

module _ {X : Type 0} (test : X → Bool) where
  pub one_at : (xs : List X) (i : ℕ) (d : X) → i < length xs → test (get_or xs i d) ≡ true → 1 ≤ count_by test xs
  one_at xs i d l t =
      let le : cond {A = ℕ} (test (get_or xs i d)) 1 0 ≤ count_by test xs = get_or-le-sum_by (λ x. cond (test x) 1 0) xs i d l in
      let e : cond {A = ℕ} (test (get_or xs i d)) 1 0 ≡ 1 = ap (λ b. cond b 1 0) t in
      omega arith

  -- two places that pass
  pub two_at : (xs : List X) (i j : ℕ) (d : X) → i < j → j < length xs → test (get_or xs i d) ≡ true → test (get_or xs j d) ≡ true → 2 ≤ count_by test xs
  two_at [] i j d lt l p q = (let n : length {A = X} [] ≡ 0 = refl in absurd (omega (arith, n)))
  two_at (x ∷ xs) zero zero d lt l p q = absurd (omega arith)
  two_at (x ∷ xs) (suc i) zero d lt l p q = absurd (omega arith)
  two_at (x ∷ xs) zero (suc j) d lt l p q =
      let rest : 1 ≤ count_by test xs = one_at xs j d (omega arith) q in
      let e : cond {A = ℕ} (test x) 1 0 ≡ 1 = ap (λ b. cond b 1 0) p in
      let s = sum_by-cons (λ x. cond (test x) 1 0) x xs in
      omega arith
  two_at (x ∷ xs) (suc i) (suc j) d lt l p q =
      let rest : 2 ≤ count_by test xs = two_at xs i j d (omega arith) (omega arith) p q in
      let s = sum_by-cons (λ x. cond (test x) 1 0) x xs in
      omega arith

  -- where at most one passes, two that pass are the same
  pub same_at : (xs : List X) → count_by test xs ≤ 1 → (a b : X) → Contains xs a → test a ≡ true → Contains xs b → test b ≡ true → a ≡ b
  same_at xs few a b (i, li, ei) ta (j, lj, ej) tb =
      let at_a : (d : X) → get_or xs i d ≡ a = λ d. get_or_default xs i d a li ∙ ei in
      let at_b : (d : X) → get_or xs j d ≡ b = λ d. get_or_default xs j d b lj ∙ ej in
      elim (cases_order i j) [
        | inl e ↦ sym (at_a a) ∙ ap (λ k. get_or xs k a) e ∙ at_b a
        | inr (inl lt) ↦ (let h = two_at xs i j a lt lj (ap test (at_a a) ∙ ta) (ap test (at_b a) ∙ tb) in absurd (omega arith))
        | inr (inr lt) ↦ (let h = two_at xs j i a lt li (ap test (at_b a) ∙ tb) (ap test (at_a a) ∙ ta) in absurd (omega arith))
      ]

  filter_step : (P : X → Type 0) (x : X) (xs ys : List X) (b : Bool) → test x ≡ b → (All P ys → All (λ x. test x ≡ true → P x) xs) → All P (cond b (x ∷ ys) ys) → All (λ x. test x ≡ true → P x) (x ∷ xs)
  filter_step P x xs ys true e ih h = All-cons (λ x. test x ≡ true → P x) x xs (λ t. All-head P x ys h) (ih (All-tail P x ys h))
  filter_step P x xs ys false e ih h = All-cons (λ x. test x ≡ true → P x) x xs (λ t. absurd (false≢true (sym e ∙ t))) (ih h)

  -- what holds of all that pass
  pub All-from_filter : (P : X → Type 0) (xs : List X) → All P (filter test xs) → All (λ x. test x ≡ true → P x) xs
  All-from_filter P [] h = All-nil (λ x. test x ≡ true → P x)
  All-from_filter P (x ∷ xs) h = filter_step P x xs (filter test xs) (test x) refl (All-from_filter P xs) h

  filter_back : (P : X → Type 0) (x : X) (xs ys : List X) (b : Bool) → test x ≡ b → (b ≡ true → P x) → All P ys → All P (cond b (x ∷ ys) ys)
  filter_back P x xs ys true e p h = All-cons P x ys (p refl) h
  filter_back P x xs ys false e p h = h

  pub All-to_filter : (P : X → Type 0) (xs : List X) → All (λ x. test x ≡ true → P x) xs → All P (filter test xs)
  All-to_filter P [] h = All-nil P
  All-to_filter P (x ∷ xs) h = filter_back P x xs (filter test xs) (test x) refl (All-head (λ x. test x ≡ true → P x) x xs h) (All-to_filter P xs (All-tail (λ x. test x ≡ true → P x) x xs h))

  -- a thing of the list that passes
  pub some_of : (xs : List X) → list_any test xs ≡ true → (x : X) × Contains xs x × (test x ≡ true)
  some_of xs h = (let a = Any-from_list_any test xs h in (a.1, (a.0, a.2, a.3), a.4))

  pub some_in : (xs : List X) (x : X) → Contains xs x → test x ≡ true → list_any test xs ≡ true
  some_in xs x h t = list_any-from_Any test xs (h.0, x, h.1, h.2, t)

pub any_from : {X : Type 0} (P : X → Type 0) (xs : List X) (x : X) → Contains xs x → P x → Any P xs
any_from P xs x h p = (h.0, x, h.1, h.2, p)

-- ---- tests of the definitions

module _ (g : LaunchGraph) where
  zero_in : (o : Option ℕ) → option_map_or (λ n. n == 0) o false ≡ true → o ≡ Some 0
  zero_in None h = absurd (false≢true h)
  zero_in (Some n) h = ap Some (eqb-true n 0 h)

  pub zero-is : (c : ℕ) → is_zero_class g c ≡ true → IsZero g c
  zero-is c h = zero_in (constant_of g c) h

  pub zero-from : (c : ℕ) → IsZero g c → is_zero_class g c ≡ true
  zero-from c h = ap (λ o. option_map_or (λ n. n == 0) o false) h

  byte_in : (o : Option ℕ) → option_map_or (λ n. nat_le n 255) o false ≡ true → (n : ℕ) × (o ≡ Some n) × (n ≤ 255)
  byte_in None h = absurd (false≢true h)
  byte_in (Some n) h = (n, refl, leb-true n 255 h)

  pub byte-is : (c : ℕ) → is_byte g c ≡ true → IsByteConstant g c
  byte-is c h = byte_in (constant_of g c) h

  pub byte-from : (c : ℕ) → IsByteConstant g c → is_byte g c ≡ true
  byte-from c (n, e, l) = ap (λ o. option_map_or (λ n. nat_le n 255) o false) e ∙ le-leb n 255 l

  pub input-is : (c : ℕ) → is_input g c ≡ true → IsClassOfInput g c
  input-is c h = (let a = some_of (λ i. i.class == c) g.inputs h in any_from (λ i. i.class ≡ c) g.inputs a.0 a.1 (eqb-true a.0.class c a.2))

  pub input-from : (c : ℕ) → IsClassOfInput g c → is_input g c ≡ true
  input-from c (k, i, l, e, s) = some_in (λ i. i.class == c) g.inputs i (k, l, e) (eq-eqb i.class c s)

  pub free-is : (o : Operand) → is_free g o ≡ true → IsFree g o
  free-is o h = elim (or_cases (is_zero_class g o.class) (o.second && is_byte g o.class) h) [
    | inl z ↦ inl (zero-is o.class z)
    | inr b ↦ (let p = and_parts o.second (is_byte g o.class) b in inr (p.0, byte-is o.class p.1))
  ]

  pub free-from : (o : Operand) → IsFree g o → is_free g o ≡ true
  free-from o (inl z) = or_left (is_zero_class g o.class) (o.second && is_byte g o.class) (zero-from o.class z)
  free-from o (inr b) = or_right (is_zero_class g o.class) (o.second && is_byte g o.class) (and_from o.second (is_byte g o.class) b.0 (byte-from o.class b.1))

  pub gives-is : (c : ℕ) (l : Launch) → gives g c l ≡ true → Gives g c l
  gives-is c l h = (let p = and_parts (launches g gives_word l) (class_at g l.row == c) h in (p.0, eqb-true (class_at g l.row) c p.1))

  pub gives-from : (c : ℕ) (l : Launch) → Gives g c l → gives g c l ≡ true
  gives-from c l h = and_from (launches g gives_word l) (class_at g l.row == c) h.0 (eq-eqb (class_at g l.row) c h.1)

-- ---- only a guard has a branch

no_instr : None ≡ Some kinds.Beq → ⊥
no_instr h = cc

no_branch : (op : WordOp) → option_map_or is_branch (operate_kind op) false ≡ false
no_branch ops.Neg = refl
no_branch _ = refl

not_operate : (op : WordOp) → operate_kind op ≡ Some kinds.Beq → ⊥
not_operate op h = false≢true (sym (no_branch op) ∙ ap (λ i. option_map_or is_branch i false) h)

module _ (g : LaunchGraph) where
  displaced_not : (i : InstrKind) (b : Bool) → (Some i ≡ Some kinds.Beq → ⊥) → cond b (Some i) None ≡ Some kinds.Beq → ⊥
  displaced_not i true n h = n h
  displaced_not i false n h = no_instr h

  sum_not : (i : InstrKind) (a b : Bool) → (Some i ≡ Some kinds.Beq → ⊥)
      → cond a (cond b (Some i) None) None ≡ Some kinds.Beq → ⊥
  sum_not i true b n h = displaced_not i b n h
  sum_not i false b n h = no_instr h

  word_not : (op : WordOp) (operands : List ℕ) → word_op_instr g op operands ≡ Some kinds.Beq → ⊥
  word_not ops.Lda operands h = displaced_not kinds.Lda (is_some (constant_of g (get_or operands 1 0))) (λ e. cc) h
  word_not ops.Ldah operands h = displaced_not kinds.Ldah (is_some (constant_of g (get_or operands 1 0))) (λ e. cc) h
  word_not op operands h = not_operate op h

  op_not : (op : Op) (operands : List ℕ) → op_instr g op operands ≡ Some kinds.Beq → ⊥
  op_not (Word op) operands h = word_not op operands h
  op_not (Select access) operands h = displaced_not (kinds.Load access) (is_aligned g access operands) (λ e. cc) h
  op_not (Store access) operands h = displaced_not (kinds.Store access) (is_aligned g access operands) (λ e. cc) h
  op_not (Load access) operands h =
      sum_not (kinds.Load access) (is_sum_aligned g access operands) (is_some (constant_of g (get_or operands 2 0)))
      (λ e. cc) h
  op_not (Put access) operands h =
      sum_not (kinds.Store access) (is_sum_aligned g access operands) (is_some (constant_of g (get_or operands 2 0)))
      (λ e. cc) h
  op_not op operands h = no_instr h

  row_not : (o : Option LaunchRow) → option_and_then (λ r. op_instr g r.op r.operands) o ≡ Some kinds.Beq → ⊥
  row_not None h = no_instr h
  row_not (Some r) h = op_not r.op r.operands h

  guard_in : (o : Option Guard) → option_map (λ _. kinds.Beq) o ≡ Some kinds.Beq → is_some o ≡ true
  guard_in None h = absurd (no_instr h)
  guard_in (Some x) h = refl

  no_copy : Some (kinds.Operate Bis) ≡ Some kinds.Beq → ⊥
  no_copy h = cc

  -- the branch is that of the guard, one number behind the last row
  branch_in : (row : ℕ) (b : Bool) → (row == length g.rows) ≡ b → (o : Option ℕ) → cond b (option_map (λ _. kinds.Beq) g.guard) (option_map_or (λ class. Some (kinds.Operate Bis)) o (option_and_then (λ r. op_instr g r.op r.operands) (slice_get g.rows row))) ≡ Some kinds.Beq → (is_some g.guard ≡ true) × (row ≡ length g.rows)
  branch_in row true e o h = (guard_in g.guard h, eqb-true row (length g.rows) e)
  branch_in row false e None h = absurd (row_not (slice_get g.rows row) h)
  branch_in row false e (Some class) h = absurd (no_copy h)

  branch_at : (row : ℕ) → instr_at g row ≡ Some kinds.Beq → (is_some g.guard ≡ true) × (row ≡ length g.rows)
  branch_at row h = branch_in row (row == length g.rows) refl (copied_at g row) h

  beq_is : (i : InstrKind) → is_branch i ≡ true → i ≡ kinds.Beq
  beq_is kinds.Beq h = refl
  beq_is i h = absurd (false≢true h)

  branch_instr : (o : Option InstrKind) → option_map_or is_branch o false ≡ true → o ≡ Some kinds.Beq
  branch_instr None h = absurd (false≢true h)
  branch_instr (Some i) h = ap Some (beq_is i h)

  pub guarded : (l : Launch) → launches g is_branch l ≡ true → is_some g.guard ≡ true
  guarded l h = (branch_at l.row (branch_instr (instr_at g l.row) h)).0

  pub branch-row : (row : ℕ) (i : InstrKind) → instr_at g row ≡ Some i → is_branch i ≡ true → row ≡ length g.rows
  branch-row row i e b = (branch_at row (branch_instr (instr_at g row) (ap (λ (o : Option InstrKind). option_map_or is_branch o false) e ∙ b))).1
