-- The opcodes of the instructions that are no operates. From the Alpha Architecture Handbook, version 4, the table of
-- opcodes.
use Rattle.std.specs.Prelude.{ℕ, Option, Bool, ◌==◌, find}
use Rattle.word_ops.specs.declared.operates.Operate.{Operate}
use Rattle.word_ops.specs.declared.sorts.Access.{Access}
use Rattle.word_ops.specs.declared.sorts.Access.TheVariants.{Quad, Byte, Word, Long}
use Rattle.word_ops.specs.Operates.{has_code, operates, row_of}

abbrev pub lda_opcode : ℕ
lda_opcode = 0x08

abbrev pub ldah_opcode : ℕ
ldah_opcode = 0x09

abbrev pub load_opcode : Access → ℕ
load_opcode Quad = 0x0B
load_opcode Byte = 0x0A
load_opcode Word = 0x0C
load_opcode Long = 0x28

abbrev pub store_opcode : Access → ℕ
store_opcode Quad = 0x0F
store_opcode Byte = 0x0E
store_opcode Word = 0x0D
store_opcode Long = 0x2C

abbrev pub ldq_opcode : ℕ
ldq_opcode = 0x29

abbrev pub stq_opcode : ℕ
stq_opcode = 0x2D

abbrev pub beq_opcode : ℕ
beq_opcode = 0x39

-- the operate of an opcode and a function code
abbrev pub operate_of : ℕ → ℕ → Option Operate
operate_of opcode function = find (has_code opcode function) operates

-- whether an operate has one operand, its second; such are sextb and sextw
abbrev pub is_unary : Operate → Bool
is_unary operate = (row_of operate).arity == 1
