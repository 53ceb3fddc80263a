-- The instructions of a schedule in word order, and the places of its targets.
-- Source: this project. Each launch to the pool that gives a word has a register of the pool; one to a pinned set has
-- its pin.
use Rattle.std.specs.Prelude.{◌≡◌, ℕ, ℤ, pos, ◌+◌, ◌-◌, ◌%◌, ◌^◌, List, [], ◌∷◌, map, length, Option, Some, None, ◌&&◌, nat_le, Bool, not, unwrap_or, position, filter, slice_index, slice_get, option_and_then, if◌then◌else◌}
use Rattle.std.specs.Option.{option_map_or}
use Rattle.std.specs.Int.{cast_signed, w16}
use Rattle.word_ops.specs.declared.operates.Operate.{Operate as OperateOf}
use Rattle.word_ops.specs.declared.operates.Operate.TheVariants as operates
use Rattle.word_ops.specs.declared.operators.WordOp.{WordOp}
use Rattle.word_ops.specs.declared.operators.WordOp.TheVariants as ops
use Rattle.graph_meaning.specs.Graphs.{constant_of, is_zero_class, is_memory_name}
use Rattle.schedule_meaning.specs.Launches.{gives, pin_of, copied_at, IsInWordOrder}
use Rattle.schedule_meaning.specs.Readers.{passes, is_intact, input_where}
use Rattle.register_assign.specs.PoolPlaces.{pool_place}
use Rattle.alpha_encode.specs.declared.instructions.Second.{Second}
use Rattle.alpha_encode.specs.declared.instructions.Second.TheVariants.{Reg, Literal}
use Rattle.alpha_encode.specs.declared.instructions.Instr.{Instr}
use Rattle.alpha_encode.specs.declared.instructions.Instr.TheVariants.{Operate, Lda, Ldah, Load, Store, Beq}
use Rattle.word_ops.specs.declared.sorts.Op.{Op}
use Rattle.word_ops.specs.declared.sorts.Op.TheVariants as op
use Rattle.register_assign.specs.declared.listings.Item.{Item}
use Rattle.register_assign.specs.declared.listings.Where.{Where}
use Rattle.machine_table.specs.declared.tables.Table.{Table}
use Rattle.graph_meaning.specs.declared.graphs.SetClass.{SetClass}
use Rattle.graph_meaning.specs.declared.graphs.LaunchGraph.{LaunchGraph}
use Rattle.schedule_meaning.specs.declared.schedules.Allocation.{Allocation}
use Rattle.schedule_meaning.specs.declared.schedules.Launch.{Launch}

-- ---- registers and words. `ordered` is the schedule in word order

-- the pin to which the launch at place i goes
abbrev pub pin_at : LaunchGraph → List Launch → ℕ → Option ℕ
pin_at g ordered i = option_and_then (λ l. pin_of g l.to) (slice_get ordered i)

-- the register of the launch at place i that gives a word: its pin, or that at its place in the pool
abbrev pub register_at : LaunchGraph → Allocation → List Launch → ℕ → ℕ
register_at g a ordered i = unwrap_or (pin_at g ordered i) (slice_index g.pool (pool_place g a ordered i))

abbrev pub or_register : Option ℕ → ℕ → ℕ
or_register None r = r
or_register (Some r) _ = r

-- 31 for the zero class, or the register of the first input that still holds its word, or that of the first launch that
-- passes
abbrev pub register_by : LaunchGraph → Allocation → List Launch → (ℕ → Bool) → (Launch → Bool) → ℕ → ℕ
register_by g a ordered holds test class =
    if is_zero_class g class then 31
    else or_register (input_where g holds class)
    (option_map_or (register_at g a ordered) (position (λ l. gives g class l && test l) ordered) 31)

abbrev pub register_for : LaunchGraph → Table → Allocation → List Launch → Launch → ℕ → ℕ
register_for g table a ordered l class =
    register_by g a ordered (is_intact g ordered (Some l)) (passes g table (Some l)) class

-- the place of a target without a pin
abbrev pub target_register : LaunchGraph → Table → Allocation → List Launch → ℕ → ℕ
target_register g table a ordered class = register_by g a ordered (is_intact g ordered None) (passes g table None) class

abbrev pub target_place : LaunchGraph → Table → Allocation → List Launch → SetClass → ℕ
target_place g table a ordered s = unwrap_or s.pin (target_register g table a ordered s.class)

abbrev pub literal_or : Option ℕ → Second → Second
literal_or None second = second
literal_or (Some n) second = if nat_le n 255 then Literal n else second

abbrev pub second_for : LaunchGraph → Table → Allocation → List Launch → Launch → ℕ → Second
second_for g table a ordered l class = literal_or (constant_of g class) (Reg (register_for g table a ordered l class))

-- the low 16 bits of the constant, with sign
abbrev pub displacement_of : LaunchGraph → ℕ → ℤ
displacement_of g class = cast_signed w16 (unwrap_or (constant_of g class) 0 % 2 ^ 16)

module _ (g : LaunchGraph) (table : Table) (a : Allocation) (ordered : List Launch) (i : ℕ) (l : Launch) where
  abbrev pub reg : ℕ → ℕ
  reg class = register_for g table a ordered l class

  abbrev pub own : ℕ
  own = register_at g a ordered i

  abbrev pub operate_instr : OperateOf → List ℕ → Instr
  operate_instr op [] = Operate op 31 (Reg 31) own
  operate_instr op (x ∷ []) = Operate op 31 (second_for g table a ordered l x) own
  operate_instr op (x ∷ y ∷ ys) = Operate op (reg x) (second_for g table a ordered l y) own

  -- what stands for a row that can't be launched
  abbrev pub no_instr : Instr
  no_instr = Operate operates.Bis 31 (Reg 31) 31

  abbrev pub word_instr : WordOp → List ℕ → Instr
  word_instr ops.Lda operands = Lda own (reg (slice_index operands 0)) (displacement_of g (slice_index operands 1))
  word_instr ops.Ldah operands = Ldah own (reg (slice_index operands 0)) (displacement_of g (slice_index operands 1))
  word_instr (ops.Operate op) operands = operate_instr op operands
  word_instr _ operands = no_instr

  abbrev pub row_instr : Op → List ℕ → Instr
  row_instr (op.Word o) operands = word_instr o operands
  row_instr (op.Select access) operands = Load access own (reg (slice_index operands 1)) (pos 0)
  row_instr (op.Load access) operands =
      Load access own (reg (slice_index operands 1)) (displacement_of g (slice_index operands 2))
  row_instr (op.Store access) operands = Store access (reg (slice_index operands 2)) (reg (slice_index operands 1)) (pos 0)
  row_instr (op.Put access) operands =
      Store access (reg (slice_index operands 3)) (reg (slice_index operands 1))
      (displacement_of g (slice_index operands 2))
  row_instr _ operands = no_instr

  -- a class's word is copied by a bis
  abbrev pub copy_instr : ℕ → Instr
  copy_instr class = Operate operates.Bis 31 (second_for g table a ordered l class) own

  abbrev pub branch_class : ℕ
  branch_class = option_map_or (λ guard. guard.class) g.guard 0

  -- the word of a row, or of the branch
  abbrev pub plain_instr : Instr
  plain_instr =
      option_map_or (λ r. row_instr r.op r.operands) (slice_get g.rows l.row)
      (Beq (reg branch_class) (pos (length ordered - i)))

  -- the word of the launch l at place i
  abbrev pub instr_of : Instr
  instr_of = option_map_or copy_instr (copied_at g l.row) plain_instr

  abbrev pub item_of : Item
  item_of = record { instr = instr_of; cycle = l.cycle; slot = l.slot }

abbrev pub items_from : LaunchGraph → Table → Allocation → List Launch → ℕ → List Launch → List Item
items_from g table a ordered i [] = []
items_from g table a ordered i (l ∷ ls) = item_of g table a ordered i l ∷ items_from g table a ordered (i + 1) ls

abbrev pub items_of : LaunchGraph → Table → Allocation → List Launch → List Item
items_of g table a ordered = items_from g table a ordered 0 ordered

abbrev pub word_targets : LaunchGraph → List SetClass
word_targets g = filter (λ s. not (is_memory_name s.name)) g.sets

abbrev pub wheres_of : LaunchGraph → Table → Allocation → List Launch → List Where
wheres_of g table a ordered =
    map (λ s. record { name = s.name; reg = target_place g table a ordered s }) (word_targets g)

-- the items and places of a schedule
pub record IsListing (g : LaunchGraph) (table : Table) (a : Allocation) (ls : List Launch) (items : List Item)
    (wheres : List Where) : Type 0 where
  pub ordered : List Launch
  pub order : IsInWordOrder g ls ordered
  pub items_are : items ≡ items_of g table a ordered
  pub wheres_are : wheres ≡ wheres_of g table a ordered
