-- No word of a schedule traps where the graph is true: the address of an access is the multiple that it has to be.
use Rattle.std.proofs.Common.{◌≡◌, ℕ, zero, suc, ◌-◌, ◌%◌, ◌^◌, ◌<◌, List, [], ◌∷◌, length, pos, refl, sym, ◌∙◌, ap, subst, arith, Bool, true, not, Option, Some, None}
use Rattle.std.specs.Prelude.{All, IsFalse, IsSomeAnd, ◌&&◌, ◌==◌, nat_le, slice_get, slice_index, if◌then◌else◌}
use Rattle.std.specs.Option.{option_map_or}
use Rattle.std.proofs.lemmas.Bool.{eq-eqb, leb-true}
use Rattle.std.proofs.lemmas.List.Elements.{All-head}
use Rattle.word_ops.specs.Memory.{alignment}
use Rattle.word_ops.specs.Meanings.{arity_of_op, operand_sort}
use Rattle.word_ops.specs.Worlds.{World, Value, IsValue}
use Rattle.word_ops.specs.declared.sorts.Access.{Access}
use Rattle.word_ops.specs.declared.operates.Operate.{Operate as OperateOf}
use Rattle.word_ops.specs.declared.operators.WordOp.{WordOp}
use Rattle.word_ops.specs.declared.operators.WordOp.TheVariants as ops
use Rattle.word_ops.specs.declared.sorts.Sort.TheVariants as sorts
use Rattle.word_ops.specs.declared.sorts.Op.{Op}
use Rattle.word_ops.specs.declared.sorts.Op.TheVariants as op
use Rattle.alpha_machine.specs.States.{MachineState}
use Rattle.alpha_machine.specs.Steps.{is_multiple, place_of, traps}
use Rattle.machine_table.specs.Tables.{MayUse}
use Rattle.graph_meaning.specs.Graphs.{multiple_of}
use Rattle.graph_meaning.specs.Multiples.{is_sum_multiple}
use Rattle.schedule_meaning.specs.Launches.{displaced, op_instr, plain, op_operands, copied_at}
use Rattle.schedule_meaning.specs.declared.schedules.Operand.{Operand}
use Rattle.register_assign.specs.Listings.{register_at, register_for, displacement_of, instr_of, plain_instr, row_instr, word_instr, operate_instr, copy_instr, branch_class, reg}
use Rattle.alpha_encode.specs.declared.instructions.Instr.{Instr}
use Rattle.alpha_encode.specs.declared.instructions.Instr.TheVariants.{Beq}
use Rattle.graph_meaning.specs.declared.graphs.LaunchRow.{LaunchRow}
use Rattle.graph_meaning.specs.declared.graphs.LaunchGraph.{LaunchGraph}
use Rattle.machine_table.specs.declared.tables.Table.{Table}
use Rattle.machine_table.specs.declared.tables.InstrKind.{InstrKind}
use Rattle.machine_table.specs.declared.tables.InstrKind.TheVariants as kinds
use Rattle.schedule_meaning.specs.declared.schedules.Allocation.{Allocation}
use Rattle.schedule_meaning.specs.declared.schedules.Launch.{Launch}
use Rattle.register_assign.proofs.Reached.{HasReached}
use Rattle.register_assign.proofs.Scene.{IsScene, CanUse, row_with, arity_is, operand_value, can_is, reads_is}
use Rattle.register_assign.proofs.Operands.{displaced_constant, where_passed, address_reads, base_reads}
use Rattle.register_assign.proofs.Steps.{two_of, three_of, four_of}

multiple_from : (n v : ℕ) → v % 2 ^ n ≡ 0 → is_multiple n v ≡ true
multiple_from zero v h = refl
multiple_from (suc n) v h = eq-eqb (v % 2 ^ suc n) 0 h

-- a load and a store at such an address
load_quiet : (n v : ℕ) (b : Bool) → v % 2 ^ n ≡ 0 → IsFalse (not (is_multiple n v) && b)
load_quiet n v b h = ap (λ t. not t && b) (multiple_from n v h)

store_quiet : (n v : ℕ) → v % 2 ^ n ≡ 0 → IsFalse (not (is_multiple n v))
store_quiet n v h = ap not (multiple_from n v h)

module _ (g : LaunchGraph) (table : Table) (allocation : Allocation) (k : ℕ) (ordered : List Launch) (w : World)
    (value : ℕ → Value)
    (scene : IsScene g table allocation k ordered w value)
    (n : ℕ) (l : Launch) (s : MachineState) (reached : HasReached g allocation w value ordered n s)
    (here : slice_get ordered n ≡ Some l) where
  abbrev Usable : Operand → Type 0
  Usable p = CanUse g table ordered l p

  abbrev May : InstrKind → Type 0
  May i = MayUse table i l.slot

  abbrev Row : ℕ → List ℕ → Op → List ℕ → Type 0
  Row class name o xs = slice_get g.rows l.row ≡ Some (row_with class o name xs)

  module _ (class : ℕ) (o : Op) (name xs : List ℕ) (row : Row class name o xs) where
    reads : All Usable (op_operands o xs)
    reads = reads_is g table allocation k ordered w value scene n l here class o name xs row

    can : IsSomeAnd (op_instr g o xs) May
    can = can_is g table allocation k ordered w value scene n l here class o name xs row

    arity : length xs ≡ arity_of_op o
    arity = arity_is g table allocation k ordered w value scene n l here class o name xs row

    second_value : 1 < length xs → IsValue (operand_sort o 1) (value (slice_index xs 1))
    second_value lt = operand_value g table allocation k ordered w value scene n l here class o name xs row 1 lt

  -- ---- addresses

  -- that of a class
  class_times : (access : Access) (a : ℕ) (i : InstrKind)
      → IsSomeAnd (if nat_le (alignment access) (multiple_of g a) then Some i else None) May → Usable (plain a)
      → IsValue sorts.Word (value a)
      → place_of s (register_for g table allocation ordered l a) (pos 0) % 2 ^ alignment access ≡ 0
  class_times access a i can usable sort =
      let enough = (where_passed (nat_le (alignment access) (multiple_of g a)) (Some i) May can).0 in
      ap (λ v. v % 2 ^ alignment access)
      (address_reads g table allocation k ordered w value scene n l s reached here a usable sort)
      ∙ scene.multiples.class a (alignment access) (leb-true (alignment access) (multiple_of g a) enough)

  -- that of a base and a displacement
  sum_times : (access : Access) (x d : ℕ) (i : InstrKind)
      → IsSomeAnd (if is_sum_multiple g (alignment access) x d then displaced g i d else None) May → Usable (plain x)
      → place_of s (register_for g table allocation ordered l x) (displacement_of g d) % 2 ^ alignment access ≡ 0
  sum_times access x d i can usable =
      let p = where_passed (is_sum_multiple g (alignment access) x d) (displaced g i d) May can in
      let c = displaced_constant g d i May p.1 in
      ap (λ v. v % 2 ^ alignment access)
      (base_reads g table allocation k ordered w value scene n l s reached here x d c.0 usable c.1)
      ∙ scene.multiples.sum (alignment access) x d p.0

  -- ---- rows

  abbrev IsQuiet : Op → List ℕ → Type 0
  IsQuiet o xs = IsFalse (traps (row_instr g table allocation ordered n l o xs) s)

  select_quiet : (access : Access) (class m a : ℕ) (name : List ℕ) → Row class name (op.Select access) (m ∷ a ∷ [])
      → IsQuiet (op.Select access) (m ∷ a ∷ [])
  select_quiet access class m a name row =
      let can_be = can class (op.Select access) name (m ∷ a ∷ []) row in
      let usable = All-head Usable (plain a) [] (reads class (op.Select access) name (m ∷ a ∷ []) row) in
      let sort = second_value class (op.Select access) name (m ∷ a ∷ []) row (omega arith) in
      load_quiet (alignment access) (place_of s (register_for g table allocation ordered l a) (pos 0))
      (not (register_at g allocation ordered n == 31)) (class_times access a (kinds.Load access) can_be usable sort)

  store_row_quiet : (access : Access) (class m a v : ℕ) (name : List ℕ)
      → Row class name (op.Store access) (m ∷ a ∷ v ∷ []) → IsQuiet (op.Store access) (m ∷ a ∷ v ∷ [])
  store_row_quiet access class m a v name row =
      let can_be = can class (op.Store access) name (m ∷ a ∷ v ∷ []) row in
      let usable =
      All-head Usable (plain a) (plain v ∷ []) (reads class (op.Store access) name (m ∷ a ∷ v ∷ []) row) in
      let sort = second_value class (op.Store access) name (m ∷ a ∷ v ∷ []) row (omega arith) in
      store_quiet (alignment access) (place_of s (register_for g table allocation ordered l a) (pos 0))
      (class_times access a (kinds.Store access) can_be usable sort)

  load_row_quiet : (access : Access) (class m x d : ℕ) (name : List ℕ)
      → Row class name (op.Load access) (m ∷ x ∷ d ∷ []) → IsQuiet (op.Load access) (m ∷ x ∷ d ∷ [])
  load_row_quiet access class m x d name row =
      let can_be = can class (op.Load access) name (m ∷ x ∷ d ∷ []) row in
      let usable = All-head Usable (plain x) [] (reads class (op.Load access) name (m ∷ x ∷ d ∷ []) row) in
      load_quiet (alignment access) (place_of s (register_for g table allocation ordered l x) (displacement_of g d))
      (not (register_at g allocation ordered n == 31)) (sum_times access x d (kinds.Load access) can_be usable)

  put_quiet : (access : Access) (class m x d v : ℕ) (name : List ℕ)
      → Row class name (op.Put access) (m ∷ x ∷ d ∷ v ∷ []) → IsQuiet (op.Put access) (m ∷ x ∷ d ∷ v ∷ [])
  put_quiet access class m x d v name row =
      let can_be = can class (op.Put access) name (m ∷ x ∷ d ∷ v ∷ []) row in
      let usable =
      All-head Usable (plain x) (plain v ∷ []) (reads class (op.Put access) name (m ∷ x ∷ d ∷ v ∷ []) row) in
      store_quiet (alignment access) (place_of s (register_for g table allocation ordered l x) (displacement_of g d))
      (sum_times access x d (kinds.Store access) can_be usable)

  operate_quiet : (o : OperateOf) (xs : List ℕ) → IsFalse (traps (operate_instr g table allocation ordered n l o xs) s)
  operate_quiet o [] = refl
  operate_quiet o (x ∷ []) = refl
  operate_quiet o (x ∷ y ∷ ys) = refl

  word_quiet : (o : WordOp) (xs : List ℕ) → IsFalse (traps (word_instr g table allocation ordered n l o xs) s)
  word_quiet ops.Lda xs = refl
  word_quiet ops.Ldah xs = refl
  word_quiet (ops.Operate o) xs = operate_quiet o xs
  word_quiet _ xs = refl

  row_quiet : (class : ℕ) (name xs : List ℕ) (o : Op) → Row class name o xs → IsQuiet o xs
  row_quiet class name xs (op.Word o) row = word_quiet o xs
  row_quiet class name xs (op.Select access) row =
      let t = two_of xs (arity class (op.Select access) name xs row) in
      subst (IsQuiet (op.Select access)) (sym t.2)
      (select_quiet access class t.0 t.1 name (subst (Row class name (op.Select access)) t.2 row))
  row_quiet class name xs (op.Store access) row =
      let t = three_of xs (arity class (op.Store access) name xs row) in
      subst (IsQuiet (op.Store access)) (sym t.3)
      (store_row_quiet access class t.0 t.1 t.2 name (subst (Row class name (op.Store access)) t.3 row))
  row_quiet class name xs (op.Load access) row =
      let t = three_of xs (arity class (op.Load access) name xs row) in
      subst (IsQuiet (op.Load access)) (sym t.3)
      (load_row_quiet access class t.0 t.1 t.2 name (subst (Row class name (op.Load access)) t.3 row))
  row_quiet class name xs (op.Put access) row =
      let t = four_of xs (arity class (op.Put access) name xs row) in
      subst (IsQuiet (op.Put access)) (sym t.4)
      (put_quiet access class t.0 t.1 t.2 t.3 name (subst (Row class name (op.Put access)) t.4 row))
  row_quiet class name xs op.Entry row = refl
  row_quiet class name xs (op.Input r) row = refl
  row_quiet class name xs (op.Constant c) row = refl
  row_quiet class name xs (op.Declared d a) row = refl

  -- ---- each word

  abbrev row_or_branch : Option LaunchRow → Instr
  row_or_branch o =
      option_map_or (λ r. row_instr g table allocation ordered n l r.op r.operands) o
      (Beq (reg g table allocation ordered n l (branch_class g table allocation ordered n l)) (pos (length ordered - n)))

  quiet_by : (o : Option LaunchRow) → slice_get g.rows l.row ≡ o → IsFalse (traps (row_or_branch o) s)
  quiet_by None e = refl
  quiet_by (Some r) e = row_quiet r.class r.name r.operands r.op e

  quiet_copied : (o : Option ℕ)
      → IsFalse (traps (option_map_or (copy_instr g table allocation ordered n l) o (plain_instr g table allocation ordered n l)) s)
  quiet_copied (Some class) = refl
  quiet_copied None = quiet_by (slice_get g.rows l.row) refl

  pub never_traps : IsFalse (traps (instr_of g table allocation ordered n l) s)
  never_traps = quiet_copied (copied_at g l.row)
