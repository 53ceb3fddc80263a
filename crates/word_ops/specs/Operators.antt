-- Each operator's number of operands and its value, by operator. From the Alpha Architecture Handbook, version 4: the
-- operates; and from this project: neg, not, selectb, storeb, lda and ldah as operators of terms.
use Rattle.std.specs.Prelude.{◌≡◌, ℕ, List, [], ◌∷◌, ◌++◌, map, Some, slice_get, slice_index, refl}
use Rattle.word_ops.specs.declared.operates.Operate.{Operate as OperateOf}
use Rattle.word_ops.specs.declared.operates.Operate.TheVariants.{Addl, S4addl, Subl, S4subl, Cmpbge, S8addl, S8subl, Cmpult, Addq, S4addq, Subq, S4subq, Cmpeq, S8addq, S8subq, Cmpule, Cmplt, Cmple, And, Bic, Bis, Ornot, Xor, Eqv, Mskbl, Extbl, Insbl, Mskwl, Extwl, Inswl, Mskll, Extll, Insll, Zap, Zapnot, Mskql, Srl, Extql, Sll, Insql, Sra, Mskwh, Inswh, Extwh, Msklh, Inslh, Extlh, Mskqh, Insqh, Extqh, Mull, Mulq, Umulh, Sextb, Sextw}
use Rattle.word_ops.specs.declared.operators.WordOp.{WordOp}
use Rattle.word_ops.specs.declared.operators.WordOp.TheVariants.{Operate, Neg, Not, Selectb, Storeb, Lda, Ldah}
use Rattle.word_ops.specs.Operates.{row_of, operates, operate_place}
use Rattle.word_ops.specs.Values.{sign_extended, addq, subq, mulq, s4addq, s8addq, s4subq, s8subq, umulh, cmpeq, cmplt, cmple, cmpult, cmpule, cmpbge, and, bis, xor, bic, ornot, eqv, sll, srl, sra, zap, zapnot, sextb, sextw, ext_low, ext_high, ins_low, ins_high, msk_low, msk_high, neg, not, selectb, storeb, lda, ldah}

-- the operators that are no operates
abbrev pub others : List WordOp
others = Neg ∷ Not ∷ Selectb ∷ Storeb ∷ Lda ∷ Ldah ∷ []

abbrev pub operators : List WordOp
operators = map Operate operates ++ others

-- the operator's number: its place in that list, from 0
abbrev pub number_of : WordOp → ℕ
number_of (Operate operate) = operate_place operate
number_of Neg = 55
number_of Not = 56
number_of Selectb = 57
number_of Storeb = 58
number_of Lda = 59
number_of Ldah = 60

-- the list has the operator there
pub at_its_number : (op : WordOp) → slice_get operators (number_of op) ≡ Some op
at_its_number (Operate Addl) = refl
at_its_number (Operate _) = refl
at_its_number _ = refl

abbrev pub arity_of : WordOp → ℕ
arity_of (Operate operate) = (row_of operate).arity
arity_of Neg = 1
arity_of Not = 1
arity_of Storeb = 3
arity_of _ = 2

-- a and b are the operands in order; an operate of one operand has no b
unfoldable pub operate_value : OperateOf → ℕ → ℕ → ℕ
operate_value Addl a b = sign_extended 32 (addq a b)
operate_value S4addl a b = sign_extended 32 (s4addq a b)
operate_value Subl a b = sign_extended 32 (subq a b)
operate_value S4subl a b = sign_extended 32 (s4subq a b)
operate_value Cmpbge a b = cmpbge a b
operate_value S8addl a b = sign_extended 32 (s8addq a b)
operate_value S8subl a b = sign_extended 32 (s8subq a b)
operate_value Cmpult a b = cmpult a b
operate_value Addq a b = addq a b
operate_value S4addq a b = s4addq a b
operate_value Subq a b = subq a b
operate_value S4subq a b = s4subq a b
operate_value Cmpeq a b = cmpeq a b
operate_value S8addq a b = s8addq a b
operate_value S8subq a b = s8subq a b
operate_value Cmpule a b = cmpule a b
operate_value Cmplt a b = cmplt a b
operate_value Cmple a b = cmple a b
operate_value And a b = and a b
operate_value Bic a b = bic a b
operate_value Bis a b = bis a b
operate_value Ornot a b = ornot a b
operate_value Xor a b = xor a b
operate_value Eqv a b = eqv a b
operate_value Mskbl a b = msk_low 1 a b
operate_value Extbl a b = ext_low 1 a b
operate_value Insbl a b = ins_low 1 a b
operate_value Mskwl a b = msk_low 2 a b
operate_value Extwl a b = ext_low 2 a b
operate_value Inswl a b = ins_low 2 a b
operate_value Mskll a b = msk_low 4 a b
operate_value Extll a b = ext_low 4 a b
operate_value Insll a b = ins_low 4 a b
operate_value Zap a b = zap a b
operate_value Zapnot a b = zapnot a b
operate_value Mskql a b = msk_low 8 a b
operate_value Srl a b = srl a b
operate_value Extql a b = ext_low 8 a b
operate_value Sll a b = sll a b
operate_value Insql a b = ins_low 8 a b
operate_value Sra a b = sra a b
operate_value Mskwh a b = msk_high 2 a b
operate_value Inswh a b = ins_high 2 a b
operate_value Extwh a b = ext_high 2 a b
operate_value Msklh a b = msk_high 4 a b
operate_value Inslh a b = ins_high 4 a b
operate_value Extlh a b = ext_high 4 a b
operate_value Mskqh a b = msk_high 8 a b
operate_value Insqh a b = ins_high 8 a b
operate_value Extqh a b = ext_high 8 a b
operate_value Mull a b = sign_extended 32 (mulq a b)
operate_value Mulq a b = mulq a b
operate_value Umulh a b = umulh a b
operate_value Sextb a b = sextb a
operate_value Sextw a b = sextw a

-- a, b and c are the operands in order; one that the operator doesn't have doesn't matter
unfoldable pub value_at : WordOp → ℕ → ℕ → ℕ → ℕ
value_at (Operate operate) a b c = operate_value operate a b
value_at Neg a b c = neg a
value_at Not a b c = not a
value_at Selectb a b c = selectb a b
value_at Storeb a b c = storeb a b c
value_at Lda a b c = lda a b
value_at Ldah a b c = ldah a b

-- the value on a list of operands
abbrev pub value_of : WordOp → List ℕ → ℕ
value_of op vs = value_at op (slice_index vs 0) (slice_index vs 1) (slice_index vs 2)
