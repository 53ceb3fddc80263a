-- The order of the instructions in a table: the operates by opcode and function, then lda and ldah, the loads and the
-- stores, and beq; and their names. Source: Alpha Architecture Handbook, version 4, the table of opcodes and functions.
use Rattle.std.specs.Prelude.{ℕ, List, [], ◌∷◌, ◌++◌, map, Option, Some, None, codes, find, bytes_eq}
use Rattle.word_ops.specs.declared.operators.WordOp.{WordOp}
use Rattle.word_ops.specs.declared.operators.WordOp.TheVariants as ops
use Rattle.word_ops.specs.declared.sorts.Access.TheVariants.{Quad, Byte, Word, Long}
use Rattle.word_ops.specs.Operates.{operates, operate_place, row_of}
use Rattle.machine_table.specs.declared.tables.InstrKind.{InstrKind}
use Rattle.machine_table.specs.declared.tables.InstrKind.TheVariants.{Operate, Lda, Ldah, Load, Store, Beq}

abbrev pub kind_number : InstrKind → ℕ
kind_number (Operate operate) = operate_place operate
kind_number Lda = 55
kind_number Ldah = 56
kind_number (Load Quad) = 57
kind_number (Store Quad) = 58
kind_number (Load Byte) = 59
kind_number (Load Word) = 60
kind_number (Load Long) = 61
kind_number (Store Byte) = 62
kind_number (Store Word) = 63
kind_number (Store Long) = 64
kind_number Beq = 65

abbrev pub instr_name : InstrKind → List ℕ
instr_name (Operate operate) = (row_of operate).name
instr_name Lda = codes "lda"
instr_name Ldah = codes "ldah"
instr_name (Load Quad) = codes "ldq_u"
instr_name (Store Quad) = codes "stq_u"
instr_name (Load Byte) = codes "ldbu"
instr_name (Load Word) = codes "ldwu"
instr_name (Load Long) = codes "ldl"
instr_name (Store Byte) = codes "stb"
instr_name (Store Word) = codes "stw"
instr_name (Store Long) = codes "stl"
instr_name Beq = codes "beq"

-- the instructions that are no operates, in their order
abbrev pub other_instructions : List InstrKind
other_instructions =
    Lda ∷ Ldah ∷ Load Quad ∷ Store Quad ∷ Load Byte ∷ Load Word ∷ Load Long ∷ Store Byte ∷ Store Word ∷ Store Long
    ∷ Beq ∷ []

-- the instructions, in their order
abbrev pub instructions : List InstrKind
instructions = map Operate operates ++ other_instructions

-- the instruction of the name, where one has it
unfoldable pub instr_named : List ℕ → Option InstrKind
instr_named name = find (λ instr. bytes_eq (instr_name instr) name) instructions

-- the operate of an operator, where it is one
abbrev pub operate_kind : WordOp → Option InstrKind
operate_kind (ops.Operate operate) = Some (Operate operate)
operate_kind _ = None
