-- Which rows can be launched, where a launch's word goes, what it reads and gives, and in which order the words stand.
-- Source: this project, over the launches of Denali (PLDI 2002) and the clusters of the Alpha 21264.
use Rattle.std.specs.Prelude.{◌≡◌, ℕ, ◌+◌, ◌-◌, ◌<◌, ◌≤◌, List, [], ◌∷◌, length, Option, Some, None, ◌==◌, ◌&&◌, ◌||◌, nat_lt, nat_le, Bool, true, false, not, unwrap_or, option_map, option_and_then, is_some, All, AllPairs, Any, if◌then◌else◌, IsTrue, ◌⊎◌, slice_get, slice_index, IsPermutation}
use Rattle.std.specs.Option.{option_map_or}
use Rattle.machine_table.specs.InstrOrder.{operate_kind}
use Rattle.machine_table.specs.Tables.{cluster_of, ready}
use Rattle.graph_meaning.specs.Graphs.{constant_of, is_input_register, is_zero_class, multiple_of}
use Rattle.graph_meaning.specs.Multiples.{is_sum_multiple}
use Rattle.word_ops.specs.Memory.{alignment}
use Rattle.word_ops.specs.declared.sorts.Access.{Access}
use Rattle.word_ops.specs.declared.operators.WordOp.{WordOp}
use Rattle.word_ops.specs.declared.operators.WordOp.TheVariants as ops
use Rattle.machine_table.specs.declared.tables.InstrKind.{InstrKind}
use Rattle.word_ops.specs.declared.operates.Operate.TheVariants.{Bis}
use Rattle.machine_table.specs.declared.tables.InstrKind.TheVariants as kinds
use Rattle.word_ops.specs.declared.sorts.Op.{Op}
use Rattle.word_ops.specs.declared.sorts.Op.TheVariants.{Word, Select, Store, Load, Put}
use Rattle.graph_meaning.specs.declared.graphs.Guard.{Guard}
use Rattle.machine_table.specs.declared.tables.Table.{Table}
use Rattle.graph_meaning.specs.declared.graphs.LaunchRow.{LaunchRow}
use Rattle.graph_meaning.specs.declared.graphs.SetClass.{SetClass}
use Rattle.graph_meaning.specs.declared.graphs.LaunchGraph.{LaunchGraph}
use Rattle.schedule_meaning.specs.declared.schedules.Operand.{Operand}
use Rattle.schedule_meaning.specs.declared.schedules.To.{To}
use Rattle.schedule_meaning.specs.declared.schedules.To.TheVariants.{Pool, Set}
use Rattle.schedule_meaning.specs.declared.schedules.Launch.{Launch}

-- ---- instructions

-- the instruction, where the class of its displacement has a constant
abbrev pub displaced : LaunchGraph → InstrKind → ℕ → Option InstrKind
displaced g instr class = if is_some (constant_of g class) then Some instr else None

abbrev pub word_op_instr : LaunchGraph → WordOp → List ℕ → Option InstrKind
word_op_instr g ops.Lda operands = displaced g kinds.Lda (slice_index operands 1)
word_op_instr g ops.Ldah operands = displaced g kinds.Ldah (slice_index operands 1)
word_op_instr g op operands = operate_kind op

-- the class of an access's address is known to be the multiple that the address has to be for its instruction not to
-- trap
abbrev pub is_aligned : LaunchGraph → Access → List ℕ → Bool
is_aligned g access operands = nat_le (alignment access) (multiple_of g (slice_index operands 1))

-- the same of the sum of its base and displacement
abbrev pub is_sum_aligned : LaunchGraph → Access → List ℕ → Bool
is_sum_aligned g access operands =
    is_sum_multiple g (alignment access) (slice_index operands 1) (slice_index operands 2)

-- the instruction of a row that can be launched
abbrev pub op_instr : LaunchGraph → Op → List ℕ → Option InstrKind
op_instr g (Word op) operands = word_op_instr g op operands
op_instr g (Select access) operands = if is_aligned g access operands then Some (kinds.Load access) else None
op_instr g (Store access) operands = if is_aligned g access operands then Some (kinds.Store access) else None
op_instr g (Load access) operands =
    if is_sum_aligned g access operands then displaced g (kinds.Load access) (slice_index operands 2) else None
op_instr g (Put access) operands =
    if is_sum_aligned g access operands then displaced g (kinds.Store access) (slice_index operands 2) else None
op_instr g _ operands = None

-- the class of a set that has a pin
abbrev pub pinned_class : Option SetClass → Option ℕ
pinned_class None = None
pinned_class (Some s) = option_map (λ r. s.class) s.pin

-- the class that a row's number copies: behind the branch's number each set has one, and that of a set with a pin is its
-- copy
abbrev pub copied_at : LaunchGraph → ℕ → Option ℕ
copied_at g row =
    if nat_lt (length g.rows) row then pinned_class (slice_get g.sets (row - (length g.rows + 1))) else None

-- the instruction of a row's number; the number one past the last is the branch of a guard, and a copy is a bis
abbrev pub instr_at : LaunchGraph → ℕ → Option InstrKind
instr_at g row =
    if row == length g.rows
    then option_map (λ _. kinds.Beq) g.guard
    else option_map_or (λ class. Some (kinds.Operate Bis)) (copied_at g row)
    (option_and_then (λ r. op_instr g r.op r.operands) (slice_get g.rows row))

abbrev pub gives_word : InstrKind → Bool
gives_word (kinds.Store access) = false
gives_word kinds.Beq = false
gives_word _ = true

abbrev pub is_load : InstrKind → Bool
is_load (kinds.Load access) = true
is_load _ = false

abbrev pub is_store : InstrKind → Bool
is_store (kinds.Store access) = true
is_store _ = false

abbrev pub is_branch : InstrKind → Bool
is_branch kinds.Beq = true
is_branch _ = false

-- the launch's instruction passes the test
abbrev pub launches : LaunchGraph → (InstrKind → Bool) → Launch → Bool
launches g test l = option_map_or test (instr_at g l.row) false

-- the class of a row's number; that of a copy is its set's
abbrev pub class_at : LaunchGraph → ℕ → ℕ
class_at g row = unwrap_or (copied_at g row) (option_map_or (λ r. r.class) (slice_get g.rows row) 0)

-- ---- destinations

-- the set that a launch goes to
abbrev pub set_at : LaunchGraph → To → Option SetClass
set_at g Pool = None
set_at g (Set j) = slice_get g.sets j

-- the pinned register that a launch with this destination writes
abbrev pub pin_of : LaunchGraph → To → Option ℕ
pin_of g to = option_and_then (λ s. s.pin) (set_at g to)

abbrev pub is_pool : To → Bool
is_pool Pool = true
is_pool (Set j) = false

-- it is the set of this number
abbrev pub is_set : ℕ → To → Bool
is_set j Pool = false
is_set j (Set i) = i == j

-- the launch goes to this set
abbrev pub goes_to : ℕ → Launch → Bool
goes_to j l = is_set j l.to

-- the launch goes to a set that is pinned to the register
abbrev pub writes_pin : LaunchGraph → ℕ → Launch → Bool
writes_pin g r l = option_map_or (λ q. q == r) (pin_of g l.to) false

-- it goes to a set that is pinned to an input's register
abbrev pub overwrites : LaunchGraph → Launch → Bool
overwrites g l = option_map_or (is_input_register g) (pin_of g l.to) false

-- it takes a register of the pool
abbrev pub takes_pool : LaunchGraph → Launch → Bool
takes_pool g l = is_pool l.to && launches g gives_word l

-- ---- operands

abbrev pub plain : ℕ → Operand
plain class = record { class = class; second = false }

abbrev pub operate_operands : List ℕ → List Operand
operate_operands [] = []
operate_operands (x ∷ []) = record { class = x; second = true } ∷ []
operate_operands (x ∷ y ∷ ys) = plain x ∷ operate_operands (y ∷ ys)

abbrev pub word_op_operands : WordOp → List ℕ → List Operand
word_op_operands op operands =
    if is_some (operate_kind op) then operate_operands operands else plain (slice_index operands 0) ∷ []

abbrev pub op_operands : Op → List ℕ → List Operand
op_operands (Word op) operands = word_op_operands op operands
op_operands (Select access) operands = plain (slice_index operands 1) ∷ []
op_operands (Load access) operands = plain (slice_index operands 1) ∷ []
op_operands (Store access) operands = plain (slice_index operands 1) ∷ plain (slice_index operands 2) ∷ []
op_operands (Put access) operands = plain (slice_index operands 1) ∷ plain (slice_index operands 3) ∷ []
op_operands _ operands = []

abbrev pub row_operands : Option LaunchRow → List Operand
row_operands None = []
row_operands (Some r) = op_operands r.op r.operands

abbrev pub guard_operands : Option Guard → List Operand
guard_operands None = []
guard_operands (Some guard) = plain guard.class ∷ []

-- a copy reads its set's class, as the second operand of its instruction
abbrev pub copy_operands : ℕ → List Operand
copy_operands class = record { class = class; second = true } ∷ []

-- the word operands of a row's number
abbrev pub operands_at : LaunchGraph → ℕ → List Operand
operands_at g row =
    if row == length g.rows
    then guard_operands g.guard
    else option_map_or copy_operands (copied_at g row) (row_operands (slice_get g.rows row))

-- the class of the memory that a load or store reads
abbrev pub memory_class_at : LaunchGraph → ℕ → ℕ
memory_class_at g row = option_map_or (λ r. slice_index r.operands 0) (slice_get g.rows row) 0

abbrev pub IsZero : LaunchGraph → ℕ → Type 0
IsZero g class = constant_of g class ≡ Some 0

abbrev pub IsByteConstant : LaunchGraph → ℕ → Type 0
IsByteConstant g class = (n : ℕ) × (constant_of g class ≡ Some n) × (n ≤ 255)

-- the operand needs no register: the zero class, or a literal
abbrev pub IsFree : LaunchGraph → Operand → Type 0
IsFree g o = IsZero g o.class ⊎ (IsTrue o.second × IsByteConstant g o.class)

-- the same, as a test
abbrev pub is_byte_constant : LaunchGraph → ℕ → Bool
is_byte_constant g class = option_map_or (λ n. nat_le n 255) (constant_of g class) false

abbrev pub is_free : LaunchGraph → Operand → Bool
is_free g o = is_zero_class g o.class || (o.second && is_byte_constant g o.class)

-- the launch is of a row of the class, and gives its word
abbrev pub Gives : LaunchGraph → ℕ → Launch → Type 0
Gives g class l = IsTrue (launches g gives_word l) × (class_at g l.row ≡ class)

-- the same, as a test
abbrev pub gives : LaunchGraph → ℕ → Launch → Bool
gives g class l = launches g gives_word l && (class_at g l.row == class)

-- the cycle from which the launch's word is seen in a cluster
abbrev pub ready_in : LaunchGraph → Table → ℕ → Launch → ℕ
ready_in g table cluster l = ready table l.cycle l.slot (unwrap_or (instr_at g l.row) kinds.Beq) cluster

-- some input is of the class
abbrev pub IsClassOfInput : LaunchGraph → ℕ → Type 0
IsClassOfInput g class = Any (λ i. i.class ≡ class) g.inputs

-- one slot in one cycle
abbrev pub collides : Launch → Launch → Bool
collides l m = (l.cycle == m.cycle) && (l.slot == m.slot)

-- the first cycle in which others may write what the launch reads: its own, since overwriting launches stand last in
-- their cycle; for an overwriting one the next
abbrev pub reads_until : LaunchGraph → Launch → ℕ
reads_until g l = if overwrites g l then l.cycle + 1 else l.cycle

-- m is another launch than l, and writes the register before l has read it
abbrev pub spoils : LaunchGraph → Launch → ℕ → Launch → Bool
spoils g l r m = writes_pin g r m && (not (collides l m) && nat_lt m.cycle (reads_until g l))

-- the launch finds in the register what it had at entry
abbrev pub IsUnspoilt : LaunchGraph → List Launch → Launch → ℕ → Type 0
IsUnspoilt g ls l r = All (λ m. ¬ IsTrue (spoils g l r m)) ls

-- no launch goes to a set that is pinned to the register
abbrev pub IsUnwritten : LaunchGraph → List Launch → ℕ → Type 0
IsUnwritten g ls r = All (λ m. ¬ IsTrue (writes_pin g r m)) ls

-- some input of the class has a register of which this holds
abbrev pub HasInput : LaunchGraph → ℕ → (ℕ → Type 0) → Type 0
HasInput g class P = Any (λ i. (i.class ≡ class) × P i.reg) g.inputs

-- the launch can read the class: from an input's register, or as the word of a launch that is ready in its cluster
abbrev pub IsReadable : LaunchGraph → Table → List Launch → Launch → ℕ → Type 0
IsReadable g table ls l class =
    HasInput g class (IsUnspoilt g ls l)
    ⊎ Any (λ m. Gives g class m × (ready_in g table (cluster_of table l.slot) m ≤ l.cycle)) ls

-- ---- memory

-- the later launch, and of two in one cycle the first
abbrev pub later : Launch → Option Launch → Option Launch
later l None = Some l
later l (Some m) = if nat_lt l.cycle m.cycle then Some m else Some l

-- of the launches that pass, the first of those with the greatest cycle
abbrev pub latest : (Launch → Bool) → List Launch → Option Launch
latest test [] = None
latest test (l ∷ ls) = if test l then later l (latest test ls) else latest test ls

-- the class of the memory that the stores of cycles below t leave
abbrev pub memory_before : LaunchGraph → List Launch → ℕ → ℕ
memory_before g ls t =
    option_map_or (λ l. class_at g l.row) (latest (λ l. launches g is_store l && nat_lt l.cycle t) ls) g.entry

-- the class of the memory that all stores leave
abbrev pub memory_after : LaunchGraph → List Launch → ℕ
memory_after g ls = option_map_or (λ l. class_at g l.row) (latest (launches g is_store) ls) g.entry

-- ---- word order

abbrev pub kind_group : Bool → Option InstrKind → ℕ
kind_group held (Some (kinds.Load access)) = if held then 2 else 0
kind_group held (Some kinds.Beq) = 1
kind_group held (Some (kinds.Store access)) = 3
kind_group held _ = 0

abbrev pub is_held : LaunchGraph → Bool
is_held g = option_map_or (λ guard. guard.held) g.guard false

-- operates and loads that need not wait, the branch, held loads, the store, and last what overwrites inputs
abbrev pub group_of : LaunchGraph → Launch → ℕ
group_of g l = if overwrites g l then 4 else kind_group (is_held g) (instr_at g l.row)

-- by cycle, then by group, then by slot
abbrev pub StandsBefore : LaunchGraph → Launch → Launch → Type 0
StandsBefore g l m =
    (l.cycle < m.cycle)
    ⊎ ((l.cycle ≡ m.cycle) × ((group_of g l < group_of g m) ⊎ ((group_of g l ≡ group_of g m) × (l.slot ≤ m.slot))))

-- the same launches in word order
pub record IsInWordOrder (g : LaunchGraph) (ls ordered : List Launch) : Type 0 where
  pub same : IsPermutation ls ordered
  pub order : AllPairs (StandsBefore g) ordered
