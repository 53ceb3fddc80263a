-- A value, which is a word or a memory, and the world that a goal's terms are read in: 32 registers, of which register
-- 31 holds 0, a memory, and a function for each declared operator's name. From Denali (PLDI 2002): memory is one of the
-- variables, and a declared operator has no meaning but what the axioms say of it.
use Rattle.std.specs.Prelude.{◌≡◌, ℕ, List, length, slice_index, All}
use Rattle.word_ops.specs.Words.{IsWord}
use Rattle.word_ops.specs.Memory.{Memory, IsMemory}
use Rattle.word_ops.specs.declared.sorts.Sort.{Sort}
use Rattle.word_ops.specs.declared.sorts.Sort.TheVariants as sorts

pub data Value : Type 0 where
  word : ℕ → Value
  memory : Memory → Value

-- a declared operator goes by its name
pub record World : Type 0 where
  pub registers : List ℕ
  pub memory_at_entry : Memory
  pub declared : List ℕ → List ℕ → ℕ

-- 32 registers, of which number 31 is 0, and nothing that isn't a word or a memory of words
pub record IsWorld (w : World) : Type 0 where
  pub registers : length w.registers ≡ 32
  pub each : All IsWord w.registers
  pub zero_register : slice_index w.registers 31 ≡ 0
  pub memory_is : IsMemory w.memory_at_entry
  pub declared : (name : List ℕ) (vs : List ℕ) → IsWord (w.declared name vs)

-- a value of the sort, in range
abbrev pub IsValue : Sort → Value → Type 0
IsValue sorts.Word (word n) = IsWord n
IsValue sorts.Memory (memory m) = IsMemory m
IsValue _ _ = ⊥
