-- The operates, each with its name, opcode, function code, number of operands and pipes, and their order. From the Alpha
-- Architecture Handbook, version 4, the table of opcodes and function codes; and from the Alpha 21264 Hardware Reference
-- Manual, which pipes take each class of instructions.
use Rattle.std.specs.Prelude.{◌≡◌, ℕ, List, [], ◌∷◌, Bool, ◌&&◌, ◌==◌, Some, slice_get, codes, refl}
use Rattle.word_ops.specs.declared.operates.Operate.{Operate}
use Rattle.word_ops.specs.declared.operates.Operate.TheVariants.{Addl, S4addl, Subl, S4subl, Cmpbge, S8addl, S8subl, Cmpult, Addq, S4addq, Subq, S4subq, Cmpeq, S8addq, S8subq, Cmpule, Cmplt, Cmple, And, Bic, Bis, Ornot, Xor, Eqv, Mskbl, Extbl, Insbl, Mskwl, Extwl, Inswl, Mskll, Extll, Insll, Zap, Zapnot, Mskql, Srl, Extql, Sll, Insql, Sra, Mskwh, Inswh, Extwh, Msklh, Inslh, Extlh, Mskqh, Insqh, Extqh, Mull, Mulq, Umulh, Sextb, Sextw}
use Rattle.word_ops.specs.declared.operates.Pipes.{Pipes}
use Rattle.word_ops.specs.declared.operates.Pipes.TheVariants.{Any, Shifters, Multiplier}

pub record Row : Type 0 where
  pub name : List ℕ
  pub opcode : ℕ
  pub function : ℕ
  pub arity : ℕ
  pub pipes : Pipes

abbrev pub row : List ℕ → ℕ → ℕ → ℕ → Pipes → Row
row name opcode function arity pipes =
    record { name = name; opcode = opcode; function = function; arity = arity; pipes = pipes }

abbrev pub row_of : Operate → Row
row_of Addl = row (codes "addl") 0x10 0x00 2 Any
row_of S4addl = row (codes "s4addl") 0x10 0x02 2 Any
row_of Subl = row (codes "subl") 0x10 0x09 2 Any
row_of S4subl = row (codes "s4subl") 0x10 0x0B 2 Any
row_of Cmpbge = row (codes "cmpbge") 0x10 0x0F 2 Any
row_of S8addl = row (codes "s8addl") 0x10 0x12 2 Any
row_of S8subl = row (codes "s8subl") 0x10 0x1B 2 Any
row_of Cmpult = row (codes "cmpult") 0x10 0x1D 2 Any
row_of Addq = row (codes "addq") 0x10 0x20 2 Any
row_of S4addq = row (codes "s4addq") 0x10 0x22 2 Any
row_of Subq = row (codes "subq") 0x10 0x29 2 Any
row_of S4subq = row (codes "s4subq") 0x10 0x2B 2 Any
row_of Cmpeq = row (codes "cmpeq") 0x10 0x2D 2 Any
row_of S8addq = row (codes "s8addq") 0x10 0x32 2 Any
row_of S8subq = row (codes "s8subq") 0x10 0x3B 2 Any
row_of Cmpule = row (codes "cmpule") 0x10 0x3D 2 Any
row_of Cmplt = row (codes "cmplt") 0x10 0x4D 2 Any
row_of Cmple = row (codes "cmple") 0x10 0x6D 2 Any
row_of And = row (codes "and") 0x11 0x00 2 Any
row_of Bic = row (codes "bic") 0x11 0x08 2 Any
row_of Bis = row (codes "bis") 0x11 0x20 2 Any
row_of Ornot = row (codes "ornot") 0x11 0x28 2 Any
row_of Xor = row (codes "xor") 0x11 0x40 2 Any
row_of Eqv = row (codes "eqv") 0x11 0x48 2 Any
row_of Mskbl = row (codes "mskbl") 0x12 0x02 2 Shifters
row_of Extbl = row (codes "extbl") 0x12 0x06 2 Shifters
row_of Insbl = row (codes "insbl") 0x12 0x0B 2 Shifters
row_of Mskwl = row (codes "mskwl") 0x12 0x12 2 Shifters
row_of Extwl = row (codes "extwl") 0x12 0x16 2 Shifters
row_of Inswl = row (codes "inswl") 0x12 0x1B 2 Shifters
row_of Mskll = row (codes "mskll") 0x12 0x22 2 Shifters
row_of Extll = row (codes "extll") 0x12 0x26 2 Shifters
row_of Insll = row (codes "insll") 0x12 0x2B 2 Shifters
row_of Zap = row (codes "zap") 0x12 0x30 2 Shifters
row_of Zapnot = row (codes "zapnot") 0x12 0x31 2 Shifters
row_of Mskql = row (codes "mskql") 0x12 0x32 2 Shifters
row_of Srl = row (codes "srl") 0x12 0x34 2 Shifters
row_of Extql = row (codes "extql") 0x12 0x36 2 Shifters
row_of Sll = row (codes "sll") 0x12 0x39 2 Shifters
row_of Insql = row (codes "insql") 0x12 0x3B 2 Shifters
row_of Sra = row (codes "sra") 0x12 0x3C 2 Shifters
row_of Mskwh = row (codes "mskwh") 0x12 0x52 2 Shifters
row_of Inswh = row (codes "inswh") 0x12 0x57 2 Shifters
row_of Extwh = row (codes "extwh") 0x12 0x5A 2 Shifters
row_of Msklh = row (codes "msklh") 0x12 0x62 2 Shifters
row_of Inslh = row (codes "inslh") 0x12 0x67 2 Shifters
row_of Extlh = row (codes "extlh") 0x12 0x6A 2 Shifters
row_of Mskqh = row (codes "mskqh") 0x12 0x72 2 Shifters
row_of Insqh = row (codes "insqh") 0x12 0x77 2 Shifters
row_of Extqh = row (codes "extqh") 0x12 0x7A 2 Shifters
row_of Mull = row (codes "mull") 0x13 0x00 2 Multiplier
row_of Mulq = row (codes "mulq") 0x13 0x20 2 Multiplier
row_of Umulh = row (codes "umulh") 0x13 0x30 2 Multiplier
row_of Sextb = row (codes "sextb") 0x1C 0x00 1 Shifters
row_of Sextw = row (codes "sextw") 0x1C 0x01 1 Shifters

-- the operates by opcode and function code
abbrev pub operates : List Operate
operates =
    Addl ∷ S4addl ∷ Subl ∷ S4subl ∷ Cmpbge ∷ S8addl ∷ S8subl ∷ Cmpult ∷ Addq ∷ S4addq ∷ Subq ∷ S4subq ∷ Cmpeq
    ∷ S8addq ∷ S8subq ∷ Cmpule ∷ Cmplt ∷ Cmple ∷ And ∷ Bic ∷ Bis ∷ Ornot ∷ Xor ∷ Eqv ∷ Mskbl ∷ Extbl ∷ Insbl
    ∷ Mskwl ∷ Extwl ∷ Inswl ∷ Mskll ∷ Extll ∷ Insll ∷ Zap ∷ Zapnot ∷ Mskql ∷ Srl ∷ Extql ∷ Sll ∷ Insql ∷ Sra
    ∷ Mskwh ∷ Inswh ∷ Extwh ∷ Msklh ∷ Inslh ∷ Extlh ∷ Mskqh ∷ Insqh ∷ Extqh ∷ Mull ∷ Mulq ∷ Umulh ∷ Sextb ∷ Sextw
    ∷ []

-- the operate's place in that list, from 0
abbrev pub operate_place : Operate → ℕ
operate_place Addl = 0
operate_place S4addl = 1
operate_place Subl = 2
operate_place S4subl = 3
operate_place Cmpbge = 4
operate_place S8addl = 5
operate_place S8subl = 6
operate_place Cmpult = 7
operate_place Addq = 8
operate_place S4addq = 9
operate_place Subq = 10
operate_place S4subq = 11
operate_place Cmpeq = 12
operate_place S8addq = 13
operate_place S8subq = 14
operate_place Cmpule = 15
operate_place Cmplt = 16
operate_place Cmple = 17
operate_place And = 18
operate_place Bic = 19
operate_place Bis = 20
operate_place Ornot = 21
operate_place Xor = 22
operate_place Eqv = 23
operate_place Mskbl = 24
operate_place Extbl = 25
operate_place Insbl = 26
operate_place Mskwl = 27
operate_place Extwl = 28
operate_place Inswl = 29
operate_place Mskll = 30
operate_place Extll = 31
operate_place Insll = 32
operate_place Zap = 33
operate_place Zapnot = 34
operate_place Mskql = 35
operate_place Srl = 36
operate_place Extql = 37
operate_place Sll = 38
operate_place Insql = 39
operate_place Sra = 40
operate_place Mskwh = 41
operate_place Inswh = 42
operate_place Extwh = 43
operate_place Msklh = 44
operate_place Inslh = 45
operate_place Extlh = 46
operate_place Mskqh = 47
operate_place Insqh = 48
operate_place Extqh = 49
operate_place Mull = 50
operate_place Mulq = 51
operate_place Umulh = 52
operate_place Sextb = 53
operate_place Sextw = 54

-- the list has the operate there
pub at_its_place : (operate : Operate) → slice_get operates (operate_place operate) ≡ Some operate
at_its_place Addl = refl
at_its_place _ = refl

-- opcode and function code
abbrev pub code_of : Operate → ℕ × ℕ
code_of operate = ((row_of operate).opcode, (row_of operate).function)

abbrev pub has_code : ℕ → ℕ → Operate → Bool
has_code opcode function operate = (row_of operate).opcode == opcode && (row_of operate).function == function
