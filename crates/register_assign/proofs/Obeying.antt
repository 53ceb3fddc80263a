-- The items of a fitting schedule keep to the table.
use Rattle.std.proofs.Common.{◌≡◌, ℕ, ◌<◌, List, [], ◌∷◌, length, refl, sym, ◌∙◌, ap, subst, inl, inr, ◌⊎◌, arith, Bool, true, false, pos, ◌-◌, Option, Some, None}
use Rattle.std.specs.Prelude.{All, IsTrue, IsSomeAnd, slice_get, slice_index, ◌==◌, ◌&&◌, ◌||◌, not, if◌then◌else◌, is_some, option_map, nat_le, position}
use Rattle.std.specs.Option.{option_map_or, option_and_then}
use Rattle.std.proofs.lemmas.Bool.{false≢true, not_from_false}
use Rattle.std.proofs.lemmas.Bool.Decides.{eqb_tells}
use Rattle.std.proofs.lemmas.Option.{same_Some, none-some}
use Rattle.word_ops.specs.declared.operates.Operate.{Operate as OperateOf}
use Rattle.word_ops.specs.declared.operates.Operate.TheVariants as operates
use Rattle.word_ops.specs.declared.operators.WordOp.{WordOp}
use Rattle.word_ops.specs.declared.operators.WordOp.TheVariants.{Lda, Ldah}
use Rattle.word_ops.specs.declared.operators.WordOp.TheVariants as ops
use Rattle.graph_meaning.specs.Graphs.{constant_of, is_zero_class}
use Rattle.machine_table.specs.Tables.{MayUse}
use Rattle.schedule_meaning.specs.Launches.{instr_at, copied_at, gives, guard_operands, is_byte_constant, is_free, op_operands, operands_at, operate_operands, plain, row_operands, word_op_operands, is_aligned, is_sum_aligned, op_instr, word_op_instr as launch_instr, gives_word}
use Rattle.schedule_meaning.specs.Readers.{input_where, is_intact, operand_of, passes}
use Rattle.schedule_meaning.specs.Lifetimes.{is_operand_of, reads_class}
use Rattle.schedule_meaning.specs.declared.schedules.Operand.{Operand}
use Rattle.register_assign.specs.Listings.{instr_of, copy_instr, row_instr, word_instr, operate_instr, reg, branch_class, register_for, register_at, or_register, literal_or}
use Rattle.alpha_machine.specs.Steps.{is_unary}
use Rattle.schedule_meaning.specs.Fits.{CanLaunch}
use Rattle.alpha_encode.specs.declared.instructions.Second.TheVariants.{Reg, Literal}
use Rattle.alpha_encode.specs.declared.instructions.Instr.{Instr}
use Rattle.alpha_encode.specs.declared.instructions.Instr.TheVariants as instrs
use Rattle.std.proofs.lemmas.List.Elements.{All-cons, All-nil}
use Rattle.register_assign.specs.Obeys.{kind_of, reads, writes, second_reads as second_reads_of}
use Rattle.machine_table.specs.declared.tables.InstrKind.{InstrKind}
use Rattle.machine_table.specs.declared.tables.InstrKind.TheVariants as kinds
use Rattle.word_ops.specs.declared.sorts.Op.{Op}
use Rattle.word_ops.specs.declared.sorts.Op.TheVariants as op
use Rattle.graph_meaning.specs.declared.graphs.Guard.{Guard}
use Rattle.graph_meaning.specs.declared.graphs.LaunchRow.{LaunchRow}
use Rattle.graph_meaning.specs.declared.graphs.LaunchGraph.{LaunchGraph}
use Rattle.machine_table.specs.declared.tables.Table.{Table}
use Rattle.schedule_meaning.specs.declared.schedules.Allocation.{Allocation}
use Rattle.schedule_meaning.specs.declared.schedules.Launch.{Launch}
use Rattle.schedule_meaning.proofs.Comparisons.{and_both}
use Rattle.schedule_meaning.proofs.Pins.{any_at, number_same}
use Rattle.schedule_meaning.proofs.Rules.{in_list}
use Rattle.schedule_meaning.proofs.Copies.{copy_kind, copy_reads, plain_kind, plain_operands}

some_if : (b : Bool) (k i : InstrKind) → (if b then Some k else None) ≡ Some i → k ≡ i
some_if true k i e = same_Some k i e
some_if false k i e = absurd (none-some i e)

some_if_both : (a b : Bool) (k i : InstrKind) → (if a then (if b then Some k else None) else None) ≡ Some i → k ≡ i
some_if_both true b k i e = some_if b k i e
some_if_both false b k i e = absurd (none-some i e)

module _ (g : LaunchGraph) (table : Table) (allocation : Allocation) (ordered : List Launch) (n : ℕ) (l : Launch) where
  kind_of_operate : (o : OperateOf) (xs : List ℕ) → kind_of (operate_instr g table allocation ordered n l o xs) ≡ kinds.Operate o
  kind_of_operate o [] = refl
  kind_of_operate o (x ∷ []) = refl
  kind_of_operate o (x ∷ y ∷ ys) = refl

  word_kind : (o : WordOp) (xs : List ℕ) (i : InstrKind) → launch_instr g o xs ≡ Some i → kind_of (word_instr g table allocation ordered n l o xs) ≡ i
  word_kind Lda xs i e = some_if (is_some (constant_of g (slice_index xs 1))) kinds.Lda i e
  word_kind Ldah xs i e = some_if (is_some (constant_of g (slice_index xs 1))) kinds.Ldah i e
  word_kind (ops.Operate o) xs i e = kind_of_operate o xs ∙ same_Some (kinds.Operate o) i e
  word_kind _ xs i e = absurd (none-some i e)

  row_kind : (o : Op) (xs : List ℕ) (i : InstrKind) → op_instr g o xs ≡ Some i → kind_of (row_instr g table allocation ordered n l o xs) ≡ i
  row_kind (op.Word o) xs i e = word_kind o xs i e
  row_kind (op.Select access) xs i e = some_if (is_aligned g access xs) (kinds.Load access) i e
  row_kind (op.Store access) xs i e = some_if (is_aligned g access xs) (kinds.Store access) i e
  row_kind (op.Load access) xs i e =
      some_if_both (is_sum_aligned g access xs) (is_some (constant_of g (slice_index xs 2))) (kinds.Load access) i e
  row_kind (op.Put access) xs i e =
      some_if_both (is_sum_aligned g access xs) (is_some (constant_of g (slice_index xs 2))) (kinds.Store access) i e
  row_kind op.Entry xs i e = absurd (none-some i e)
  row_kind (op.Input r) xs i e = absurd (none-some i e)
  row_kind (op.Constant c) xs i e = absurd (none-some i e)
  row_kind (op.Declared d a) xs i e = absurd (none-some i e)

  abbrev of_row : Option LaunchRow → Instr
  of_row o = option_map_or (λ r. row_instr g table allocation ordered n l r.op r.operands) o (instrs.Beq (reg g table allocation ordered n l (branch_class g table allocation ordered n l)) (pos (length ordered - n)))

  abbrev kind_by : Bool → Option LaunchRow → Option Guard → Option InstrKind
  kind_by b o guard = if b then option_map (λ _. kinds.Beq) guard else option_and_then (λ r. op_instr g r.op r.operands) o

  kind_found : (r : LaunchRow) (o : Option InstrKind) → op_instr g r.op r.operands ≡ o → (P : InstrKind → Type 0) → IsSomeAnd o P → o ≡ Some (kind_of (of_row (Some r)))
  kind_found r None e P h = absurd h
  kind_found r (Some i) e P h = ap Some (sym (row_kind r.op r.operands i e))

  kind_cases : (b : Bool) → (l.row == length g.rows) ≡ b → (o : Option LaunchRow) → slice_get g.rows l.row ≡ o → (guard : Option Guard) → (P : InstrKind → Type 0) → IsSomeAnd (kind_by b o guard) P → kind_by b o guard ≡ Some (kind_of (of_row o))
  kind_cases true t (Some r) e guard P h =
      let lt : l.row < length g.rows = in_list g.rows l.row r e in
      elim (eqb_tells l.row (length g.rows)) [ inl u ↦ (let same : l.row ≡ length g.rows = u.1 in absurd (omega arith)) | inr u ↦ absurd (false≢true (sym u.0 ∙ t)) ]
  kind_cases true t None e None P h = absurd h
  kind_cases true t None e (Some guard) P h = refl
  kind_cases false t None e guard P h = absurd h
  kind_cases false t (Some r) e guard P h = kind_found r (op_instr g r.op r.operands) refl P h

  -- the word's instruction is that of the launch
  abbrev of_copy : Option ℕ → Instr
  of_copy c = option_map_or (copy_instr g table allocation ordered n l) c (of_row (slice_get g.rows l.row))

  plain_can : copied_at g l.row ≡ None → CanLaunch g table l → IsSomeAnd (kind_by (l.row == length g.rows) (slice_get g.rows l.row) g.guard) (λ i. MayUse table i l.slot)
  plain_can e h = subst (λ (o : Option InstrKind). IsSomeAnd o (λ i. MayUse table i l.slot)) (plain_kind g l.row e) h

  kind_copied : CanLaunch g table l → (c : Option ℕ) → copied_at g l.row ≡ c → instr_at g l.row ≡ Some (kind_of (of_copy c))
  kind_copied h (Some class) e = copy_kind g l.row class e
  kind_copied h None e = plain_kind g l.row e ∙ kind_cases (l.row == length g.rows) refl (slice_get g.rows l.row) refl g.guard (λ i. MayUse table i l.slot) (plain_can e h)

  pub kind_at : CanLaunch g table l → instr_at g l.row ≡ Some (kind_of (instr_of g table allocation ordered n l))
  kind_at h = kind_copied h (copied_at g l.row) refl

  -- ---- what a word writes

  abbrev OwnWord : Instr → Type 0
  OwnWord i = (r : ℕ) → writes i ≡ Some r → IsTrue (gives_word (kind_of i)) × (r ≡ register_at g allocation ordered n)

  operate_writes : (o : OperateOf) (xs : List ℕ) → OwnWord (operate_instr g table allocation ordered n l o xs)
  operate_writes o [] r e = (refl, sym (same_Some (register_at g allocation ordered n) r e))
  operate_writes o (x ∷ []) r e = (refl, sym (same_Some (register_at g allocation ordered n) r e))
  operate_writes o (x ∷ y ∷ ys) r e = (refl, sym (same_Some (register_at g allocation ordered n) r e))

  word_writes : (o : WordOp) (xs : List ℕ) (i : InstrKind) → launch_instr g o xs ≡ Some i → OwnWord (word_instr g table allocation ordered n l o xs)
  word_writes Lda xs i h r e = (refl, sym (same_Some (register_at g allocation ordered n) r e))
  word_writes Ldah xs i h r e = (refl, sym (same_Some (register_at g allocation ordered n) r e))
  word_writes (ops.Operate o) xs i h r e = operate_writes o xs r e
  word_writes _ xs i h r e = absurd (none-some i h)

  row_writes : (o : Op) (xs : List ℕ) (i : InstrKind) → op_instr g o xs ≡ Some i → OwnWord (row_instr g table allocation ordered n l o xs)
  row_writes (op.Word o) xs i h r e = word_writes o xs i h r e
  row_writes (op.Select access) xs i h r e = (refl, sym (same_Some (register_at g allocation ordered n) r e))
  row_writes (op.Load access) xs i h r e = (refl, sym (same_Some (register_at g allocation ordered n) r e))
  row_writes (op.Store access) xs i h r e = absurd (none-some r e)
  row_writes (op.Put access) xs i h r e = absurd (none-some r e)
  row_writes op.Entry xs i h r e = absurd (none-some i h)
  row_writes (op.Input q) xs i h r e = absurd (none-some i h)
  row_writes (op.Constant c) xs i h r e = absurd (none-some i h)
  row_writes (op.Declared d a) xs i h r e = absurd (none-some i h)

  writes_found : (q : LaunchRow) (o : Option InstrKind) → op_instr g q.op q.operands ≡ o → (P : InstrKind → Type 0) → IsSomeAnd o P → OwnWord (of_row (Some q))
  writes_found q None e P h = absurd h
  writes_found q (Some i) e P h = row_writes q.op q.operands i e

  writes_cases : (b : Bool) → (l.row == length g.rows) ≡ b → (o : Option LaunchRow) → slice_get g.rows l.row ≡ o → (guard : Option Guard) → (P : InstrKind → Type 0) → IsSomeAnd (kind_by b o guard) P → OwnWord (of_row o)
  writes_cases true t (Some q) e guard P h =
      let lt : l.row < length g.rows = in_list g.rows l.row q e in
      elim (eqb_tells l.row (length g.rows)) [ inl u ↦ (let same : l.row ≡ length g.rows = u.1 in absurd (omega arith)) | inr u ↦ absurd (false≢true (sym u.0 ∙ t)) ]
  writes_cases false t (Some q) e guard P h = writes_found q (op_instr g q.op q.operands) refl P h
  writes_cases b t None e guard P h = λ r w. absurd (none-some r w)

  writes_copied : CanLaunch g table l → (c : Option ℕ) → copied_at g l.row ≡ c → OwnWord (of_copy c)
  writes_copied h (Some class) e = operate_writes operates.Bis (class ∷ [])
  writes_copied h None e = writes_cases (l.row == length g.rows) refl (slice_get g.rows l.row) refl g.guard (λ i. MayUse table i l.slot) (plain_can e h)

  -- a word writes the launch's own register, and only where it gives a word
  pub writes_own : CanLaunch g table l → OwnWord (instr_of g table allocation ordered n l)
  writes_own h = writes_copied h (copied_at g l.row) refl

  -- ---- what a word reads

  -- register 31, or the register chosen for a class that the launch has as a word operand that isn't free
  abbrev IsChosen : ℕ → Type 0
  IsChosen r =
      (r ≡ 31) ⊎ ((class : ℕ) × (r ≡ register_for g table allocation ordered l class) × (reads_class g class l ≡ true))

  -- the launch has an operand of the class at this place
  abbrev IsAt : ℕ → ℕ → Bool → Type 0
  IsAt at class second = slice_get (operands_at g l.row) at ≡ Some (operand_of class second)

  taken : (class : ℕ) (second : Bool) → is_zero_class g class ≡ false → (second && is_byte_constant g class) ≡ false
      → is_free g (operand_of class second) ≡ false
  taken class second zero literal = ap (λ b. b || (second && is_byte_constant g class)) zero ∙ literal

  chosen_by : (at class : ℕ) (second : Bool) → IsAt at class second → (second && is_byte_constant g class) ≡ false
      → (z : Bool) → is_zero_class g class ≡ z → IsChosen (register_for g table allocation ordered l class)
  chosen_by at class second here literal true z =
      inl (ap (λ b. if b then 31 else or_register (input_where g (is_intact g ordered (Some l)) class)
      (option_map_or (register_at g allocation ordered)
      (position (λ m. gives g class m && passes g table (Some l) m) ordered) 31)) z)
  chosen_by at class second here literal false z =
      inr (
        class,
        refl,
        any_at (is_operand_of g class) (operands_at g l.row) at (operand_of class second) here
            (and_both (class == class) (not (is_free g (operand_of class second))) (number_same class class refl)
            (not_from_false (is_free g (operand_of class second)) (taken class second z literal))),
      )

  chosen : (at class : ℕ) (second : Bool) → IsAt at class second → (second && is_byte_constant g class) ≡ false
      → IsChosen (register_for g table allocation ordered l class)
  chosen at class second here literal = chosen_by at class second here literal (is_zero_class g class) refl

  one_chosen : (at class : ℕ) → IsAt at class false
      → All IsChosen (register_for g table allocation ordered l class ∷ [])
  one_chosen at class here =
      All-cons IsChosen (register_for g table allocation ordered l class) [] (chosen at class false here refl)
      (All-nil IsChosen)

  two_chosen : (at x to y : ℕ) → IsAt at x false → IsAt to y false
      → All IsChosen (register_for g table allocation ordered l x ∷ register_for g table allocation ordered l y ∷ [])
  two_chosen at x to y here there =
      All-cons IsChosen (register_for g table allocation ordered l x) (register_for g table allocation ordered l y ∷ [])
      (chosen at x false here refl) (one_chosen to y there)

  and_false : (b c : Bool) → c ≡ false → (b && c) ≡ false
  and_false true c e = e
  and_false false c e = refl

  register_chosen : (at y : ℕ) (second : Bool) → IsAt at y second → is_byte_constant g y ≡ false
      → All IsChosen (register_for g table allocation ordered l y ∷ [])
  register_chosen at y second here large =
      All-cons IsChosen (register_for g table allocation ordered l y) []
      (chosen at y second here (and_false second (is_byte_constant g y) large)) (All-nil IsChosen)

  literal_reads : (at m y : ℕ) (second : Bool) → IsAt at y second → constant_of g y ≡ Some m → (b : Bool)
      → nat_le m 255 ≡ b
      → All IsChosen (second_reads_of (if b then Literal m else Reg (register_for g table allocation ordered l y)))
  literal_reads at m y second here e true le = All-nil IsChosen
  literal_reads at m y second here e false le =
      register_chosen at y second here (ap (λ o. option_map_or (λ n. nat_le n 255) o false) e ∙ le)

  second_chosen : (at y : ℕ) (second : Bool) → IsAt at y second → (o : Option ℕ) → constant_of g y ≡ o
      → All IsChosen (second_reads_of (literal_or o (Reg (register_for g table allocation ordered l y))))
  second_chosen at y second here None e =
      register_chosen at y second here (ap (λ o. option_map_or (λ n. nat_le n 255) o false) e)
  second_chosen at y second here (Some m) e = literal_reads at m y second here e (nat_le m 255) refl

  either : (b : Bool) (xs ys : List ℕ) → All IsChosen xs → All IsChosen ys → All IsChosen (if b then xs else ys)
  either true xs ys h k = h
  either false xs ys h k = k

  both_chosen : (b : Bool) (r : ℕ) (xs : List ℕ) → IsChosen r → All IsChosen xs → All IsChosen (if b then xs else r ∷ xs)
  both_chosen b r xs h k = either b xs (r ∷ xs) k (All-cons IsChosen r xs h k)

  -- the launch's operands are these
  abbrev HasOperands : List Operand → Type 0
  HasOperands os = operands_at g l.row ≡ os

  at_place : (os : List Operand) (at class : ℕ) (second : Bool) → HasOperands os
      → slice_get os at ≡ Some (operand_of class second) → IsAt at class second
  at_place os at class second e there = ap (λ (os : List Operand). slice_get os at) e ∙ there

  -- the operand behind the first of an operate
  last_of : (y : ℕ) (ys : List ℕ)
      → (second : Bool) × (slice_get (operate_operands (y ∷ ys)) 0 ≡ Some (operand_of y second))
  last_of y [] = (true, refl)
  last_of y (z ∷ zs) = (false, refl)

  none_read : All IsChosen (31 ∷ 31 ∷ [])
  none_read = All-cons IsChosen 31 (31 ∷ []) (inl refl) (All-cons IsChosen 31 [] (inl refl) (All-nil IsChosen))

  operate_reads : (o : OperateOf) (xs : List ℕ) → HasOperands (operate_operands xs)
      → All IsChosen (reads (operate_instr g table allocation ordered n l o xs))
  operate_reads o [] has =
      both_chosen (is_unary o) 31 (31 ∷ []) (inl refl) (All-cons IsChosen 31 [] (inl refl) (All-nil IsChosen))
  operate_reads o (x ∷ []) has =
      both_chosen (is_unary o) 31
      (second_reads_of (literal_or (constant_of g x) (Reg (register_for g table allocation ordered l x)))) (inl refl)
      (second_chosen 0 x true (at_place (operate_operands (x ∷ [])) 0 x true has refl) (constant_of g x) refl)
  operate_reads o (x ∷ y ∷ ys) has =
      let last = last_of y ys in
      both_chosen (is_unary o) (register_for g table allocation ordered l x)
      (second_reads_of (literal_or (constant_of g y) (Reg (register_for g table allocation ordered l y))))
      (chosen 0 x false (at_place (operate_operands (x ∷ y ∷ ys)) 0 x false has refl) refl)
      (second_chosen 1 y last.0 (at_place (operate_operands (x ∷ y ∷ ys)) 1 y last.0 has last.1) (constant_of g y) refl)

  word_reads : (o : WordOp) (xs : List ℕ) → HasOperands (word_op_operands o xs)
      → All IsChosen (reads (word_instr g table allocation ordered n l o xs))
  word_reads Lda xs has =
      one_chosen 0 (slice_index xs 0) (at_place (plain (slice_index xs 0) ∷ []) 0 (slice_index xs 0) false has refl)
  word_reads Ldah xs has =
      one_chosen 0 (slice_index xs 0) (at_place (plain (slice_index xs 0) ∷ []) 0 (slice_index xs 0) false has refl)
  word_reads (ops.Operate o) xs has = operate_reads o xs has
  word_reads _ xs has = none_read

  row_reads : (o : Op) (xs : List ℕ) → HasOperands (op_operands o xs)
      → All IsChosen (reads (row_instr g table allocation ordered n l o xs))
  row_reads (op.Word o) xs has = word_reads o xs has
  row_reads (op.Select access) xs has =
      one_chosen 0 (slice_index xs 1) (at_place (op_operands (op.Select access) xs) 0 (slice_index xs 1) false has refl)
  row_reads (op.Load access) xs has =
      one_chosen 0 (slice_index xs 1) (at_place (op_operands (op.Load access) xs) 0 (slice_index xs 1) false has refl)
  row_reads (op.Store access) xs has =
      two_chosen 1 (slice_index xs 2) 0 (slice_index xs 1)
      (at_place (op_operands (op.Store access) xs) 1 (slice_index xs 2) false has refl)
      (at_place (op_operands (op.Store access) xs) 0 (slice_index xs 1) false has refl)
  row_reads (op.Put access) xs has =
      two_chosen 1 (slice_index xs 3) 0 (slice_index xs 1)
      (at_place (op_operands (op.Put access) xs) 1 (slice_index xs 3) false has refl)
      (at_place (op_operands (op.Put access) xs) 0 (slice_index xs 1) false has refl)
  row_reads op.Entry xs has = none_read
  row_reads (op.Input q) xs has = none_read
  row_reads (op.Constant c) xs has = none_read
  row_reads (op.Declared d a) xs has = none_read

  -- the branch has the guard's class
  branch_reads : (b : Bool) → (l.row == length g.rows) ≡ b → (guard : Option Guard) → g.guard ≡ guard
      → (P : InstrKind → Type 0) → IsSomeAnd (kind_by b None guard) P
      → HasOperands (if b then guard_operands guard else []) → All IsChosen (reads (of_row None))
  branch_reads false t guard e P h has = absurd h
  branch_reads true t None e P h has = absurd h
  branch_reads true t (Some guard) e P h has =
      let class_is : branch_class g table allocation ordered n l ≡ guard.class = ap
      (λ o. option_map_or (λ (guard : Guard). guard.class) o 0) e in
      subst (λ class. All IsChosen (register_for g table allocation ordered l class ∷ [])) (sym class_is)
      (one_chosen 0 guard.class (at_place (plain guard.class ∷ []) 0 guard.class false has refl))

  reads_by : copied_at g l.row ≡ None → CanLaunch g table l → (o : Option LaunchRow) → slice_get g.rows l.row ≡ o
      → All IsChosen (reads (of_row o))
  reads_by plain_row can None e =
      branch_reads (l.row == length g.rows) refl g.guard refl (λ i. MayUse table i l.slot)
      (subst
      (λ (o : Option LaunchRow). IsSomeAnd (kind_by (l.row == length g.rows) o g.guard) (λ i. MayUse table i l.slot)) e
      (plain_can plain_row can))
      (plain_operands g l.row plain_row
      ∙ ap (λ (o : Option LaunchRow). if l.row == length g.rows then guard_operands g.guard else row_operands o) e)
  reads_by plain_row can (Some q) e =
      row_reads q.op q.operands
      (plain_operands g l.row plain_row
      ∙ ap (λ b. if b then guard_operands g.guard else row_operands (slice_get g.rows l.row))
      (no_branch (l.row == length g.rows) refl)
      ∙ ap row_operands e)
    where
      no_branch : (b : Bool) → (l.row == length g.rows) ≡ b → (l.row == length g.rows) ≡ false
      no_branch true t =
          let lt : l.row < length g.rows = in_list g.rows l.row q e in
          elim (eqb_tells l.row (length g.rows))
          [ inl u ↦ (let same : l.row ≡ length g.rows = u.1 in absurd (omega arith)) | inr u ↦ u.0 ]
      no_branch false t = t

  reads_copied : CanLaunch g table l → (c : Option ℕ) → copied_at g l.row ≡ c → All IsChosen (reads (of_copy c))
  reads_copied can (Some class) e = operate_reads operates.Bis (class ∷ []) (copy_reads g l.row class e)
  reads_copied can None e = reads_by e can (slice_get g.rows l.row) refl

  pub reads_chosen : CanLaunch g table l → All IsChosen (reads (instr_of g table allocation ordered n l))
  reads_chosen can = reads_copied can (copied_at g l.row) refl
