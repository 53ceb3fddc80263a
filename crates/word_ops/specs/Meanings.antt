-- What an operator of a term takes and gives. From Denali (PLDI 2002); this project's are `load` and `put`, a
-- `select` and a `store` with a displacement.
use Rattle.std.specs.Prelude.{◌≡◌, ℕ, ◌<◌, ◌==◌, ◌&&◌, Bool, true, false, if◌then◌else◌, List, length, map, slice_index, slice_index_or, Option, Some, None, IfSome}
use Rattle.std.specs.FinMap.{empty}
use Rattle.word_ops.specs.Words.{IsWord}
use Rattle.word_ops.specs.Operators.{arity_of, value_at}
use Rattle.word_ops.specs.Memory.{Memory, loaded, stored, load, put}
use Rattle.word_ops.specs.Worlds.{Value, word, memory, World, IsValue}
use Rattle.word_ops.specs.declared.sorts.Arity.{Arity}
use Rattle.word_ops.specs.declared.sorts.Arity.TheVariants.{One, Two, Three, Four}
use Rattle.word_ops.specs.declared.sorts.Sort.{Sort}
use Rattle.word_ops.specs.declared.sorts.Sort.TheVariants as sorts
use Rattle.word_ops.specs.declared.sorts.Op.{Op}
use Rattle.word_ops.specs.declared.sorts.Op.TheVariants.{Entry, Input, Constant, Word, Select, Store, Load, Put, Declared}

abbrev pub count_of : Arity → ℕ
count_of One = 1
count_of Two = 2
count_of Three = 3
count_of Four = 4

-- how many operands
abbrev pub arity_of_op : Op → ℕ
arity_of_op Entry = 0
arity_of_op (Input register) = 0
arity_of_op (Constant c) = 0
arity_of_op (Word op) = arity_of op
arity_of_op (Select access) = 2
arity_of_op (Store access) = 3
arity_of_op (Load access) = 3
arity_of_op (Put access) = 4
arity_of_op (Declared index arity) = count_of arity

abbrev pub sort_of : Op → Sort
sort_of Entry = sorts.Memory
sort_of (Store access) = sorts.Memory
sort_of (Put access) = sorts.Memory
sort_of _ = sorts.Word

-- whether the first operand is a memory; every other one is a word
abbrev pub takes_memory : Op → Bool
takes_memory (Select access) = true
takes_memory (Store access) = true
takes_memory (Load access) = true
takes_memory (Put access) = true
takes_memory _ = false

abbrev pub operand_sort : Op → ℕ → Sort
operand_sort op at = if takes_memory op && at == 0 then sorts.Memory else sorts.Word

-- the constant that the operator is, if it is one
abbrev pub constant_in : Op → Option ℕ
constant_in (Constant c) = Some c
constant_in _ = None

-- so many values, of which each is in range and of the sort for its place
pub record AreValuesOf (number : ℕ) (sort_at : ℕ → Sort) (vs : List Value) : Type 0 where
  pub count : length vs ≡ number
  pub each : (at : ℕ) → at < length vs → IsValue (sort_at at) (slice_index_or vs at (word 0))

-- as many operands as the operator takes, each of its sort and in range
abbrev pub AreOperands : Op → List Value → Type 0
AreOperands op vs = AreValuesOf (arity_of_op op) (operand_sort op) vs

-- an operator's own constant is a word
abbrev pub IsInRange : Op → Type 0
IsInRange op = IfSome (constant_in op) IsWord

-- a value as a word or as a memory; at the other sort 0, or the memory that holds 0 everywhere
abbrev pub as_word : Value → ℕ
as_word (word n) = n
as_word (memory m) = 0

abbrev pub as_memory : Value → Memory
as_memory (word n) = empty
as_memory (memory m) = m

abbrev pub word_operand : List Value → ℕ → ℕ
word_operand vs at = as_word (slice_index_or vs at (word 0))

abbrev pub memory_operand : List Value → Memory
memory_operand vs = as_memory (slice_index_or vs 0 (word 0))

-- what the operator gives for the operands in a world; `names` has the name of each declared operator's number
abbrev pub meaning : World → (ℕ → List ℕ) → Op → List Value → Value
meaning world names Entry vs = memory world.memory_at_entry
meaning world names (Input register) vs = word (slice_index world.registers register)
meaning world names (Constant c) vs = word c
meaning world names (Word op) vs = word (value_at op (word_operand vs 0) (word_operand vs 1) (word_operand vs 2))
meaning world names (Select access) vs = word (loaded access (memory_operand vs) (word_operand vs 1))
meaning world names (Store access) vs = memory (stored access (memory_operand vs) (word_operand vs 1) (word_operand vs 2))
meaning world names (Load access) vs = word (load access (memory_operand vs) (word_operand vs 1) (word_operand vs 2))
meaning world names (Put access) vs =
    memory (put access (memory_operand vs) (word_operand vs 1) (word_operand vs 2) (word_operand vs 3))
meaning world names (Declared index arity) vs = word (world.declared (names index) (map as_word vs))
