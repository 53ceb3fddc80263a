-- Values of terms beside a state of the machine.
-- Source: this project.
use Rattle.std.specs.Prelude.{◌≡◌, ℕ, ◌<◌, List, [], ◌∷◌, length, slice_index}
use Rattle.word_ops.specs.Memory.{IsMemory}
use Rattle.word_ops.specs.Words.{IsWord}
use Rattle.word_ops.specs.Worlds.{World, word, memory}
use Rattle.axiom_base.specs.Rewrites.{value_in}
use Rattle.alpha_encode.specs.declared.instructions.Instr.{Instr}
use Rattle.alpha_machine.specs.States.{MachineState}
use Rattle.alpha_machine.specs.Steps.{step}
use Rattle.code_check.specs.Terms.{TermState}

-- registers and memory have the values of their terms, and are words
pub record HaveValues (world : World) (names : ℕ → List ℕ) (ts : TermState) (s : MachineState) : Type 0 where
  pub count : length s.registers ≡ 32
  pub words : (r : ℕ) → r < 32 → IsWord (slice_index s.registers r)
  pub registers : (r : ℕ) → r < 32 → value_in world names [] (ts.registers r) ≡ word (slice_index s.registers r)
  pub is_memory : IsMemory s.memory
  pub memory_is : value_in world names [] ts.memory ≡ memory s.memory

-- the steps of straight-line code
abbrev pub after_all : List Instr → MachineState → MachineState
after_all [] s = s
after_all (i ∷ is) s = after_all is (step i s)
