-- The instruction formats: which instructions there are, and the word of each. From the Alpha Architecture Handbook,
-- version 4, the memory, branch and operate formats.
use Rattle.std.specs.Prelude.{◌≡◌, ℕ, ◌+◌, ◌-◌, ◌*◌, ◌^◌, ◌<◌, ℤ, pos, negsuc, suc, IsTrue, FitsSigned}
use Rattle.std.specs.Int.{w16}
use Rattle.word_ops.specs.Operates.{code_of}
use Rattle.alpha_encode.specs.declared.instructions.Second.{Second}
use Rattle.alpha_encode.specs.declared.instructions.Second.TheVariants.{Reg, Literal}
use Rattle.alpha_encode.specs.declared.instructions.Instr.{Instr}
use Rattle.alpha_encode.specs.declared.instructions.Instr.TheVariants.{Operate, Lda, Ldah, Load, Store, Ldq, Stq, Beq}
use Rattle.alpha_encode.specs.Codes.{lda_opcode, ldah_opcode, load_opcode, store_opcode, ldq_opcode, stq_opcode, beq_opcode, is_unary}

-- the number fits in k bits of two's complement
abbrev pub FitsBits : ℕ → ℤ → Type 0
FitsBits k (pos n) = n < 2 ^ (k - 1)
FitsBits k (negsuc n) = n < 2 ^ (k - 1)

abbrev pub IsSecond : Second → Type 0
IsSecond (Reg rb) = rb < 32
IsSecond (Literal n) = n < 2 ^ 8

-- an instruction that has a word: registers, literal and displacement are in range, and sextb and sextw have register 31
-- in the place that they don't read
abbrev pub IsWellFormed : Instr → Type 0
IsWellFormed (Operate op ra second rc) =
    (ra < 32) × IsSecond second × (rc < 32) × (IsTrue (is_unary op) → ra ≡ 31)
IsWellFormed (Lda ra rb disp) = (ra < 32) × (rb < 32) × FitsSigned w16 disp
IsWellFormed (Ldah ra rb disp) = (ra < 32) × (rb < 32) × FitsSigned w16 disp
IsWellFormed (Load access ra rb disp) = (ra < 32) × (rb < 32) × FitsSigned w16 disp
IsWellFormed (Store access ra rb disp) = (ra < 32) × (rb < 32) × FitsSigned w16 disp
IsWellFormed (Ldq ra rb disp) = (ra < 32) × (rb < 32) × FitsSigned w16 disp
IsWellFormed (Stq ra rb disp) = (ra < 32) × (rb < 32) × FitsSigned w16 disp
IsWellFormed (Beq ra disp) = (ra < 32) × FitsBits 21 disp

-- the k bits of a number in two's complement
abbrev pub bits_of : ℕ → ℤ → ℕ
bits_of k (pos n) = n
bits_of k (negsuc n) = 2 ^ k - suc n

-- opcode 31..26, Ra 25..21, the second operand 20..12, function code 11..5, Rc 4..0
abbrev pub operate_word : ℕ × ℕ → ℕ → ℕ → ℕ → ℕ
operate_word code ra second rc = code.0 * 2 ^ 26 + ra * 2 ^ 21 + second * 2 ^ 12 + code.1 * 2 ^ 5 + rc

-- bits 20..12: a register in 20..16, with zeros in 15..12; or a literal in 20..13, with a one in 12
abbrev pub second_bits : Second → ℕ
second_bits (Reg rb) = rb * 2 ^ 4
second_bits (Literal n) = n * 2 + 1

-- opcode 31..26, Ra 25..21, Rb 20..16, displacement 15..0
abbrev pub memory_word : ℕ → ℕ → ℕ → ℤ → ℕ
memory_word opcode ra rb disp = opcode * 2 ^ 26 + ra * 2 ^ 21 + rb * 2 ^ 16 + bits_of 16 disp

-- opcode 31..26, Ra 25..21, displacement 20..0
abbrev pub branch_word : ℕ → ℕ → ℤ → ℕ
branch_word opcode ra disp = opcode * 2 ^ 26 + ra * 2 ^ 21 + bits_of 21 disp

-- the word of an instruction
abbrev pub encoded : Instr → ℕ
encoded (Operate op ra second rc) = operate_word (code_of op) ra (second_bits second) rc
encoded (Lda ra rb disp) = memory_word lda_opcode ra rb disp
encoded (Ldah ra rb disp) = memory_word ldah_opcode ra rb disp
encoded (Load access ra rb disp) = memory_word (load_opcode access) ra rb disp
encoded (Store access ra rb disp) = memory_word (store_opcode access) ra rb disp
encoded (Ldq ra rb disp) = memory_word ldq_opcode ra rb disp
encoded (Stq ra rb disp) = memory_word stq_opcode ra rb disp
encoded (Beq ra disp) = branch_word beq_opcode ra disp
