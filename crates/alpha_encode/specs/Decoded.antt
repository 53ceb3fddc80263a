-- The instruction that a word is, if it is one, read off its fields. From the Alpha Architecture Handbook, version 4,
-- the memory, branch and operate formats. A word that no instruction has is none: an opcode or a function code that
-- isn't in the table, bits 15..13 that aren't zero beside a register, and a Ra other than 31 in sextb and sextw.
use Rattle.std.specs.Prelude.{ℕ, ℤ, pos, negsuc, suc, ◌-◌, ◌/◌, ◌%◌, ◌^◌, ◌==◌, nat_lt, Bool, true, if◌then◌else◌, Option, Some, None}
use Rattle.std.specs.Option.{option_map, option_and_then}
use Rattle.word_ops.specs.declared.operates.Operate.{Operate as OperateOf}
use Rattle.word_ops.specs.declared.sorts.Access.{Access}
use Rattle.word_ops.specs.declared.sorts.Access.TheVariants.{Quad, Byte, Word, Long}
use Rattle.alpha_encode.specs.declared.instructions.Second.{Second}
use Rattle.alpha_encode.specs.declared.instructions.Second.TheVariants.{Reg, Literal}
use Rattle.alpha_encode.specs.declared.instructions.Instr.{Instr}
use Rattle.alpha_encode.specs.declared.instructions.Instr.TheVariants.{Operate, Lda, Ldah, Load, Store, Ldq, Stq, Beq}
use Rattle.alpha_encode.specs.Codes.{lda_opcode, ldah_opcode, load_opcode, store_opcode, ldq_opcode, stq_opcode, beq_opcode, operate_of, is_unary}

-- the field of some width whose lowest bit is `low`
abbrev pub field : ℕ → ℕ → ℕ → ℕ
field word low width = word / 2 ^ low % 2 ^ width

-- k bits, read as two's complement
abbrev pub signed : ℕ → ℕ → ℤ
signed k n = if nat_lt n (2 ^ (k - 1)) then pos n else negsuc (2 ^ k - suc n)

abbrev pub opcode : ℕ → ℕ
opcode word = field word 26 6

abbrev pub ra : ℕ → ℕ
ra word = field word 21 5

abbrev pub rb : ℕ → ℕ
rb word = field word 16 5

abbrev pub displacement : ℕ → ℤ
displacement word = signed 16 (field word 0 16)

abbrev pub branch_displacement : ℕ → ℤ
branch_displacement word = signed 21 (field word 0 21)

abbrev pub second : ℕ → Option Second
second word =
    if field word 12 1 == 1 then Some (Literal (field word 13 8)) else
    (if field word 13 3 == 0 then Some (Reg (rb word)) else None)

-- whether register ra may stand in an operate: in one of one operand only 31
abbrev pub allows_ra : OperateOf → ℕ → Bool
allows_ra op ra = if is_unary op then ra == 31 else true

abbrev pub operate_with : ℕ → OperateOf → Option Instr
operate_with word op =
    if allows_ra op (ra word) then option_map (λ second. Operate op (ra word) second (field word 0 5))
    (second word) else None

abbrev pub operate : ℕ → Option Instr
operate word = option_and_then (operate_with word) (operate_of (opcode word) (field word 5 7))

abbrev pub load_in : Access → ℕ → Option Instr
load_in access word = Some (Load access (ra word) (rb word) (displacement word))

abbrev pub store_in : Access → ℕ → Option Instr
store_in access word = Some (Store access (ra word) (rb word) (displacement word))

abbrev pub decoded : ℕ → Option Instr
decoded word =
    if opcode word == lda_opcode then Some (Lda (ra word) (rb word) (displacement word)) else
    (if opcode word == ldah_opcode then Some (Ldah (ra word) (rb word) (displacement word)) else
    (if opcode word == load_opcode Quad then load_in Quad word else
    (if opcode word == store_opcode Quad then store_in Quad word else
    (if opcode word == load_opcode Byte then load_in Byte word else
    (if opcode word == load_opcode Word then load_in Word word else
    (if opcode word == load_opcode Long then load_in Long word else
    (if opcode word == store_opcode Byte then store_in Byte word else
    (if opcode word == store_opcode Word then store_in Word word else
    (if opcode word == store_opcode Long then store_in Long word else
    (if opcode word == ldq_opcode then Some (Ldq (ra word) (rb word) (displacement word)) else
    (if opcode word == stq_opcode then Some (Stq (ra word) (rb word) (displacement word)) else
    (if opcode word == beq_opcode then Some (Beq (ra word) (branch_displacement word)) else
    operate word))))))))))))
