-- An instruction's text: the operator's name, a space, and the operands with ", " between. From this project.
use Rattle.std.specs.Prelude.{ℕ, ℤ, List, [], ◌++◌, codes, decimal, if◌then◌else◌}
use Rattle.std.specs.Fmt.{signed_decimal}
use Rattle.word_ops.specs.Operates.{row_of}
use Rattle.word_ops.specs.declared.operates.Operate.{Operate as OperateOf}
use Rattle.word_ops.specs.declared.sorts.Access.{Access}
use Rattle.word_ops.specs.declared.sorts.Access.TheVariants.{Quad, Byte, Word, Long}
use Rattle.alpha_encode.specs.declared.instructions.Second.{Second}
use Rattle.alpha_encode.specs.declared.instructions.Second.TheVariants.{Reg, Literal}
use Rattle.alpha_encode.specs.declared.instructions.Instr.{Instr}
use Rattle.alpha_encode.specs.declared.instructions.Instr.TheVariants.{Operate, Lda, Ldah, Load, Store, Ldq, Stq, Beq}
use Rattle.alpha_encode.specs.Codes.{is_unary}

abbrev pub register : ℕ → List ℕ
register r = codes "$" ++ decimal r

-- a literal and a displacement are in decimal, with '-' where negative
abbrev pub second_text : Second → List ℕ
second_text (Reg r) = register r
second_text (Literal n) = decimal n

-- an operate of one operand has no first one
abbrev pub first_text : OperateOf → ℕ → List ℕ
first_text op ra = if is_unary op then [] else register ra ++ codes ", "

-- as `lda $1, 300($31)`
abbrev pub memory_text : List ℕ → ℕ → ℕ → ℤ → List ℕ
memory_text name ra rb disp =
    name ++ register ra ++ codes ", " ++ signed_decimal disp ++ codes "(" ++ register rb ++ codes ")"

-- the mnemonic of a load and of a store, and a space
abbrev pub load_mnemonic : Access → List ℕ
load_mnemonic Quad = codes "ldq_u "
load_mnemonic Byte = codes "ldbu "
load_mnemonic Word = codes "ldwu "
load_mnemonic Long = codes "ldl "

abbrev pub store_mnemonic : Access → List ℕ
store_mnemonic Quad = codes "stq_u "
store_mnemonic Byte = codes "stb "
store_mnemonic Word = codes "stw "
store_mnemonic Long = codes "stl "

abbrev pub operate_text : OperateOf → ℕ → Second → ℕ → List ℕ
operate_text op ra second rc =
    (row_of op).name ++ codes " " ++ first_text op ra ++ second_text second ++ codes ", " ++ register rc

abbrev pub branch_text : ℕ → ℤ → List ℕ
branch_text ra disp = codes "beq " ++ register ra ++ codes ", " ++ signed_decimal disp

abbrev pub text_of : Instr → List ℕ
text_of (Operate op ra second rc) = operate_text op ra second rc
text_of (Lda ra rb disp) = memory_text (codes "lda ") ra rb disp
text_of (Ldah ra rb disp) = memory_text (codes "ldah ") ra rb disp
text_of (Load access ra rb disp) = memory_text (load_mnemonic access) ra rb disp
text_of (Store access ra rb disp) = memory_text (store_mnemonic access) ra rb disp
text_of (Ldq ra rb disp) = memory_text (codes "ldq ") ra rb disp
text_of (Stq ra rb disp) = memory_text (codes "stq ") ra rb disp
text_of (Beq ra disp) = branch_text ra disp
