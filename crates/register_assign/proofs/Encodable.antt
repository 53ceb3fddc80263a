-- Each instruction of a listing has a word.
use Rattle.std.proofs.Common.{◌≡◌, ℕ, zero, suc, ◌-◌, ◌%◌, ◌^◌, ◌<◌, ◌≤◌, ◌&&◌, List, [], ◌∷◌, length, refl, sym, ◌∙◌, ap, subst, inl, inr, arith, Bool, true, false, pos, Option, Some, None}
use Rattle.std.specs.Prelude.{All, IfSome, IsSomeAnd, slice_get, slice_index, nat_le, find, position, option_map, if◌then◌else◌, FitsSigned, unwrap_or, ◌==◌}
use Rattle.std.specs.Option.{option_map_or, option_and_then}
use Rattle.std.specs.Int.{cast_signed, w16}
use Rattle.std.proofs.lemmas.Bool.{false≢true}
use Rattle.std.proofs.lemmas.Bool.Decides.{nat_tests, leb_tells, eqb_tells}
use Rattle.std.proofs.lemmas.Int.{ints}
use Rattle.std.proofs.lemmas.Option.{same_Some, none-some}
use Rattle.word_ops.specs.declared.operates.Operate.{Operate as OperateOf}
use Rattle.word_ops.specs.declared.operates.Operate.TheVariants as operates
use Rattle.word_ops.specs.declared.operators.WordOp.{WordOp}
use Rattle.word_ops.specs.declared.operators.WordOp.TheVariants as ops
use Rattle.word_ops.specs.declared.sorts.Op.{Op}
use Rattle.word_ops.specs.declared.sorts.Op.TheVariants as op
use Rattle.word_ops.specs.Operators.{arity_of}
use Rattle.word_ops.specs.Meanings.{arity_of_op}
use Rattle.word_ops.specs.Operates.{row_of}
use Rattle.alpha_encode.specs.Codes.{is_unary}
use Rattle.alpha_encode.specs.Formats.{IsWellFormed, IsSecond}
use Rattle.alpha_encode.specs.declared.instructions.Second.TheVariants.{Reg, Literal}
use Rattle.alpha_encode.specs.declared.instructions.Instr.TheVariants as instrs
use Rattle.machine_table.specs.Tables.{MayUse}
use Rattle.graph_meaning.specs.Graphs.{constant_of, is_zero_class}
use Rattle.graph_meaning.specs.WellFormed.{IsLaunchGraph}
use Rattle.schedule_meaning.specs.Launches.{instr_at, op_instr, word_op_instr as launch_instr, pin_of, copied_at}
use Rattle.schedule_meaning.specs.Fits.{CanLaunch}
use Rattle.register_assign.specs.PoolPlaces.{pool_place}
use Rattle.register_assign.specs.Listings.{register_at, pin_at, copy_instr, register_by, register_for, or_register, literal_or, second_for, displacement_of, operate_instr, word_instr, row_instr, instr_of, branch_class, reg}
use Rattle.schedule_meaning.specs.Readers.{is_intact, passes, input_where}
use Rattle.schedule_meaning.specs.Launches.{gives}
use Rattle.graph_meaning.specs.declared.graphs.LaunchRow.{LaunchRow}
use Rattle.graph_meaning.specs.declared.graphs.InputClass.{InputClass}
use Rattle.graph_meaning.specs.declared.graphs.LaunchGraph.{LaunchGraph}
use Rattle.machine_table.specs.declared.tables.Table.{Table}
use Rattle.machine_table.specs.declared.tables.InstrKind.{InstrKind}
use Rattle.machine_table.specs.declared.tables.InstrKind.TheVariants as kinds
use Rattle.schedule_meaning.specs.declared.schedules.To.{To}
use Rattle.schedule_meaning.specs.declared.schedules.Allocation.{Allocation}
use Rattle.schedule_meaning.specs.declared.schedules.Launch.{Launch}
use Rattle.schedule_meaning.proofs.Rules.{at_each, in_list}
use Rattle.register_assign.proofs.Reading.{found_passes}
use Rattle.schedule_meaning.proofs.Pins.{pinned_from}
use Rattle.schedule_meaning.proofs.Copies.{row_no_copy, plain_kind}

fits_16 : (c : ℕ) → FitsSigned w16 (cast_signed w16 (c % 2 ^ 16))
fits_16 c = grind (arith, nat_tests, ints)

arities : (o : OperateOf) → (is_unary o ≡ true → (row_of o).arity ≡ 1) × (is_unary o ≡ false → (row_of o).arity ≡ 2)
arities operates.Sextb = ((λ e. refl), (λ e. absurd (false≢true (sym e))))
arities operates.Sextw = ((λ e. refl), (λ e. absurd (false≢true (sym e))))
arities _ = ((λ e. absurd (false≢true e)), (λ e. refl))

index_low : (xs : List ℕ) (i : ℕ) → All (λ r. r < 31) xs → slice_index xs i < 32
index_low [] i h = omega arith
index_low (x ∷ xs) zero h = let l : x < 31 = h 0 0 (omega arith) in omega arith
index_low (x ∷ xs) (suc i) h = index_low xs i (λ k d lt. h (suc k) d (omega arith))

not_equal : (a b : ℕ) → a < b → (a == b) ≡ false
not_equal a b h = elim (eqb_tells a b) [ inl t ↦ (let e : a ≡ b = t.1 in absurd (omega arith)) | inr t ↦ t.0 ]

row_kind : (g : LaunchGraph) (l : Launch) (r : LaunchRow) → slice_get g.rows l.row ≡ Some r → instr_at g l.row ≡ op_instr g r.op r.operands
row_kind g l r e =
    plain_kind g l.row (row_no_copy g l.row r e)
    ∙ ap (λ b. if b then option_map (λ _. kinds.Beq) g.guard else option_and_then (λ r. op_instr g r.op r.operands) (slice_get g.rows l.row)) (not_equal l.row (length g.rows) (in_list g.rows l.row r e))
    ∙ ap (λ o. option_and_then (λ r. op_instr g r.op r.operands) o) e

module _ (g : LaunchGraph) (graph : IsLaunchGraph g) (table : Table) (allocation : Allocation) (ordered : List Launch)
  where
    pin_low : (to : To) (r : ℕ) → pin_of g to ≡ Some r → r < 32
    pin_low to r h =
        let p = pinned_from g to r h in
        let low : r < 31 = subst (λ o. IfSome o (λ r. r < 31)) p.4 (at_each (λ s. IfSome s.pin (λ r. r < 31)) g.sets graph.pins p.0 p.1 p.3) in
        omega arith

    own_by : (i : ℕ) (o : Option Launch) (q : Option ℕ) → option_and_then (λ l. pin_of g l.to) o ≡ q
        → unwrap_or q (slice_index g.pool (pool_place g allocation ordered i)) < 32
    own_by i o None e = index_low g.pool (pool_place g allocation ordered i) graph.pool
    own_by i None (Some r) e = absurd (none-some r e)
    own_by i (Some l) (Some r) e = pin_low l.to r e

    own_low : (i : ℕ) → register_at g allocation ordered i < 32
    own_low i = own_by i (slice_get ordered i) (pin_at g ordered i) refl

    input_low : (holds : ℕ → Bool) (class : ℕ) (o : Option InputClass) → find (λ i. (i.class == class) && holds i.reg) g.inputs ≡ o → (r : ℕ) → option_map (λ i. i.reg) o ≡ Some r → r < 32
    input_low holds class None e r f = absurd (none-some r f)
    input_low holds class (Some i) e r f =
        let low : i.reg < 31 = (found_passes (λ x. (x.class == class) && holds x.reg) (λ x. x.reg < 31) g.inputs i (λ k d lt. (graph.inputs k d lt).1) e).0 in
        let same : i.reg ≡ r = same_Some i.reg r f in
        omega arith

    low_by : (holds : ℕ → Bool) (class : ℕ) (z : Bool) (o : Option ℕ) → input_where g holds class ≡ o → (p : Option ℕ) → (if z then 31 else or_register o (option_map_or (register_at g allocation ordered) p 31)) < 32
    low_by holds class true o e p = omega arith
    low_by holds class false (Some r) e p = input_low holds class (find (λ i. (i.class == class) && holds i.reg) g.inputs) refl r e
    low_by holds class false None e (Some j) = own_low j
    low_by holds class false None e None = omega arith

    pub register_low : (holds : ℕ → Bool) (test : Launch → Bool) (class : ℕ) → register_by g allocation ordered holds test class < 32
    register_low holds test class = low_by holds class (is_zero_class g class) (input_where g holds class) refl (position (λ l. gives g class l && test l) ordered)

    module _ (n : ℕ) (l : Launch) where
      reads_low : (class : ℕ) → register_for g table allocation ordered l class < 32
      reads_low class = register_low (is_intact g ordered (Some l)) (passes g table (Some l)) class

      literal_by : (b : Bool) (m y : ℕ) → (b ≡ true → m ≤ 255) → IsSecond (if b then Literal m else Reg (register_for g table allocation ordered l y))
      literal_by true m y h = let le = h refl in omega arith
      literal_by false m y h = reads_low y

      small_from : (m : ℕ) → nat_le m 255 ≡ true → m ≤ 255
      small_from m h = elim (leb_tells m 255) [ inl t ↦ t.1 | inr t ↦ absurd (false≢true (sym t.0 ∙ h)) ]

      second_by : (o : Option ℕ) (y : ℕ) → IsSecond (literal_or o (Reg (register_for g table allocation ordered l y)))
      second_by None y = reads_low y
      second_by (Some m) y = literal_by (nat_le m 255) m y (small_from m)

      second_low : (y : ℕ) → IsSecond (second_for g table allocation ordered l y)
      second_low y = second_by (constant_of g y) y

      disp_fits : (class : ℕ) → FitsSigned w16 (displacement_of g class)
      disp_fits class = fits_16 (unwrap_or (constant_of g class) 0)

      operate_fits : (o : OperateOf) (xs : List ℕ) → length xs ≡ (row_of o).arity → IsWellFormed (operate_instr g table allocation ordered n l o xs)
      operate_fits o [] e = (omega arith, omega arith, own_low n, λ u. refl)
      operate_fits o (x ∷ []) e = (omega arith, second_low x, own_low n, λ u. refl)
      operate_fits o (x ∷ y ∷ ys) e =
          (reads_low x, second_low y, own_low n, λ u. absurd (let one = (arities o).0 u in more (length ys) (row_of o).arity e one))
        where
          more : (n a : ℕ) → suc (suc n) ≡ a → a ≡ 1 → ⊥
          more n a h k = omega arith

      word_fits : (o : WordOp) (xs : List ℕ) (P : InstrKind → Type 0) → length xs ≡ arity_of o → IsSomeAnd (launch_instr g o xs) P → IsWellFormed (word_instr g table allocation ordered n l o xs)
      word_fits ops.Lda xs P e h = (own_low n, reads_low (slice_index xs 0), disp_fits (slice_index xs 1))
      word_fits ops.Ldah xs P e h = (own_low n, reads_low (slice_index xs 0), disp_fits (slice_index xs 1))
      word_fits (ops.Operate o) xs P e h = operate_fits o xs e
      word_fits _ xs P e h = absurd h

      no_disp : FitsSigned w16 (pos 0)
      no_disp = grind (arith, nat_tests, ints)

      row_fits : (o : Op) (xs : List ℕ) (P : InstrKind → Type 0) → length xs ≡ arity_of_op o → IsSomeAnd (op_instr g o xs) P → IsWellFormed (row_instr g table allocation ordered n l o xs)
      row_fits (op.Word o) xs P e h = word_fits o xs P e h
      row_fits (op.Select access) xs P e h = (own_low n, reads_low (slice_index xs 1), no_disp)
      row_fits (op.Load access) xs P e h = (own_low n, reads_low (slice_index xs 1), disp_fits (slice_index xs 2))
      row_fits (op.Store access) xs P e h = (reads_low (slice_index xs 2), reads_low (slice_index xs 1), no_disp)
      row_fits (op.Put access) xs P e h = (reads_low (slice_index xs 3), reads_low (slice_index xs 1), disp_fits (slice_index xs 2))
      row_fits op.Entry xs P e h = absurd h
      row_fits (op.Input r) xs P e h = absurd h
      row_fits (op.Constant c) xs P e h = absurd h
      row_fits (op.Declared d a) xs P e h = absurd h

      instr_by : length ordered < 2 ^ 20 → CanLaunch g table l → (o : Option LaunchRow) → slice_get g.rows l.row ≡ o → IsWellFormed (option_map_or (λ r. row_instr g table allocation ordered n l r.op r.operands) o (instrs.Beq (reg g table allocation ordered n l (branch_class g table allocation ordered n l)) (pos (length ordered - n))))
      instr_by few h None e = (reads_low (branch_class g table allocation ordered n l), omega arith)
      instr_by few h (Some r) e =
          row_fits r.op r.operands (λ i. MayUse table i l.slot) (at_each (λ r. length r.operands ≡ arity_of_op r.op) g.rows graph.arities l.row r e)
          (subst (λ (q : Option InstrKind). IsSomeAnd q (λ i. MayUse table i l.slot)) (row_kind g l r e) h)

      instr_copied : length ordered < 2 ^ 20 → CanLaunch g table l → (c : Option ℕ) → copied_at g l.row ≡ c → IsWellFormed (option_map_or (copy_instr g table allocation ordered n l) c (option_map_or (λ r. row_instr g table allocation ordered n l r.op r.operands) (slice_get g.rows l.row) (instrs.Beq (reg g table allocation ordered n l (branch_class g table allocation ordered n l)) (pos (length ordered - n)))))
      instr_copied few h (Some class) e = (omega arith, second_low class, own_low n, λ u. refl)
      instr_copied few h None e = instr_by few h (slice_get g.rows l.row) refl

      -- the word of a launch that can be made
      pub encodable : length ordered < 2 ^ 20 → CanLaunch g table l → IsWellFormed (instr_of g table allocation ordered n l)
      encodable few h = instr_copied few h (copied_at g l.row) refl
