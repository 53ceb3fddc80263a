-- What one instruction does, and when it traps. Source: Alpha Architecture Handbook, version 4, "Instruction
-- Descriptions": the integer operates, LDA, LDAH, LDBU, LDWU, LDL, LDQ_U, STB, STW, STL, STQ_U, LDQ, STQ and BEQ; and
-- of the data alignment trap, at an address that isn't a multiple of the access's width.
use Rattle.std.specs.Prelude.{ℕ, zero, suc, ℤ, ◌+◌, ◌*◌, ◌/◌, ◌%◌, ◌^◌, Bool, true, false, not, ◌&&◌, List, slice_index, set, ◌==◌, if◌then◌else◌, ◌≢◌}
use Rattle.std.specs.Int.{cast_unsigned, w64}
use Rattle.word_ops.specs.Memory.{alignment, loaded, stored, word_at}
use Rattle.word_ops.specs.Operators.{value_at}
use Rattle.word_ops.specs.declared.operates.Operate.{Operate as OperateOf}
use Rattle.word_ops.specs.declared.sorts.Access.{Access}
use Rattle.word_ops.specs.declared.sorts.Access.TheVariants.{Quad}
use Rattle.word_ops.specs.declared.operators.WordOp.TheVariants as words
pub use Rattle.alpha_encode.specs.Codes.{is_unary}
use Rattle.alpha_machine.specs.States.{MachineState}
use Rattle.alpha_encode.specs.declared.instructions.Second.{Second}
use Rattle.alpha_encode.specs.declared.instructions.Second.TheVariants.{Reg, Literal}
use Rattle.alpha_encode.specs.declared.instructions.Instr.{Instr}
use Rattle.alpha_encode.specs.declared.instructions.Instr.TheVariants.{Operate, Lda, Ldah, Load, Store, Ldq, Stq, Beq}

-- a write to register 31 is ignored
abbrev pub written : List ℕ → ℕ → ℕ → List ℕ
written registers r v = if r == 31 then registers else set registers r v

abbrev pub second_value : Second → List ℕ → ℕ
second_value (Reg r) registers = slice_index registers r
second_value (Literal n) registers = n

-- an operate of one operand takes it from its second place
abbrev pub operate_result : OperateOf → ℕ → ℕ → ℕ
operate_result op a b =
    if is_unary op then value_at (words.Operate op) b 0 0 else value_at (words.Operate op) a b 0

-- base + scale * displacement, modulo 2 ^ 64
abbrev pub address : ℕ → ℕ → ℤ → ℕ
address base scale disp = (base + scale * cast_unsigned w64 disp) % 2 ^ 64

abbrev pub next_pc : ℕ → ℕ
next_pc pc = (pc + 4) % 2 ^ 64

-- the register is written and the pc goes on
abbrev pub with_register : MachineState → ℕ → ℕ → MachineState
with_register s r v = record { registers = written s.registers r v; memory = s.memory; pc = next_pc s.pc }

-- the address of a load or a store: a base register and a displacement
abbrev pub place_of : MachineState → ℕ → ℤ → ℕ
place_of s rb disp = address (slice_index s.registers rb) 1 disp

-- a register gets what the access reads there
abbrev pub with_loaded : Access → ℕ → ℕ → ℤ → MachineState → MachineState
with_loaded access ra rb disp s = with_register s ra (loaded access s.memory (place_of s rb disp))

-- the memory gets what the access writes there
abbrev pub with_stored : Access → ℕ → ℕ → ℤ → MachineState → MachineState
with_stored access ra rb disp s = record {
  registers = s.registers;
  memory = stored access s.memory (place_of s rb disp) (slice_index s.registers ra);
  pc = next_pc s.pc;
}

-- the state after one instruction that doesn't trap
abbrev pub step : Instr → MachineState → MachineState
step (Operate op ra second rc) s =
    with_register s rc (operate_result op (slice_index s.registers ra) (second_value second s.registers))
step (Lda ra rb disp) s = with_register s ra (address (slice_index s.registers rb) 1 disp)
step (Ldah ra rb disp) s = with_register s ra (address (slice_index s.registers rb) 65536 disp)
step (Load access ra rb disp) s = with_loaded access ra rb disp s
step (Store access ra rb disp) s = with_stored access ra rb disp s
step (Ldq ra rb disp) s = with_loaded Quad ra rb disp s
step (Stq ra rb disp) s = with_stored Quad ra rb disp s
step (Beq ra disp) s = record {
  registers = s.registers;
  memory = s.memory;
  pc = if slice_index s.registers ra == 0 then address (next_pc s.pc) 4 disp else next_pc s.pc;
}

-- a multiple of 2 to this power; each number is one of 1
abbrev pub is_multiple : ℕ → ℕ → Bool
is_multiple zero n = true
is_multiple (suc power) n = n % 2 ^ suc power == 0

-- The instruction traps, so there is no step. A load to register 31 is a prefetch, which never does.
abbrev pub traps : Instr → MachineState → Bool
traps (Load access ra rb disp) s = not (is_multiple (alignment access) (place_of s rb disp)) && not (ra == 31)
traps (Store access ra rb disp) s = not (is_multiple (alignment access) (place_of s rb disp))
traps (Ldq ra rb disp) s = not (is_multiple 3 (place_of s rb disp)) && not (ra == 31)
traps (Stq ra rb disp) s = not (is_multiple 3 (place_of s rb disp))
traps _ s = false

-- after the store the word at its place isn't 0
abbrev pub LeavesWord : Access → ℕ → ℕ → ℤ → MachineState → Type 0
LeavesWord access ra rb disp s = word_at (with_stored access ra rb disp s).memory (place_of s rb disp / 8) ≢ 0

-- the instruction is a store that leaves a word; no other takes memory of the host
abbrev pub TakesMemory : Instr → MachineState → Type 0
TakesMemory (Store access ra rb disp) s = LeavesWord access ra rb disp s
TakesMemory (Stq ra rb disp) s = LeavesWord Quad ra rb disp s
TakesMemory _ s = ⊥
