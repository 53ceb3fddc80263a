-- The state of the machine: registers, memory and pc. Source: Alpha Architecture Handbook, version 4, "Registers": 32
-- integer registers, of which R31 reads as zero.
use Rattle.std.specs.Prelude.{◌≡◌, ℕ, List, All, length, slice_index, refl}
use Rattle.std.specs.Coded.{Coded, code_by, coded×, coded_ℕ, coded_list}
use Rattle.std.specs.FinMap.{code}
use Rattle.word_ops.specs.Memory.{Memory, IsMemory}
use Rattle.word_ops.specs.Words.{IsWord}

-- the registers' words, the memory, and the address of the next word
pub record MachineState : Type 0 where
  pub registers : List ℕ
  pub memory : Memory
  pub pc : ℕ

-- 32 words, of which number 31 is 0, a memory of words, and an address
pub record IsState (s : MachineState) : Type 0 where
  pub registers : length s.registers ≡ 32
  pub words : All IsWord s.registers
  pub zero_register : slice_index s.registers 31 ≡ 0
  pub memory : IsMemory s.memory
  pub pc : IsWord s.pc

-- a state is stored as its fields
abbrev pub machine_state_code : Coded MachineState
machine_state_code =
    code_by (List ℕ × (Memory × ℕ)) (coded× (coded_list coded_ℕ) (coded× (code coded_ℕ coded_ℕ) coded_ℕ))
    (λ s. (s.registers, (s.memory, s.pc))) (λ p. record { registers = p.0; memory = p.1.0; pc = p.1.1 }) (λ _. refl)
