-- Each operator gives a word where its operands are words.
use Rattle.std.proofs.Common.{ℕ, ◌-◌, ◌*◌, ◌/◌, ◌%◌, ◌^◌, ◌<◌, ◌≤◌, Bool, true, false, List, All, length, slice_index, arith, ⊎_elim, subst, sym, mul-le-mul}
use Rattle.std.proofs.Math.Nat.{mod-le}
use Rattle.std.proofs.lemmas.Bool.{cases_lt}
use Rattle.std.proofs.lemmas.List.{get_or_past}
use Rattle.std.proofs.lemmas.Nat.{pow_pos, and_le_l, or_lt, xor_lt, mod_below, shr_le}
use Rattle.word_ops.specs.declared.operators.WordOp.{WordOp}
use Rattle.word_ops.specs.declared.operates.Operate.{Operate as OperateOf}
use Rattle.word_ops.specs.declared.operates.Operate.TheVariants.{Addl, S4addl, Subl, S4subl, Cmpbge, S8addl, S8subl, Cmpult, Addq, S4addq, Subq, S4subq, Cmpeq, S8addq, S8subq, Cmpule, Cmplt, Cmple, And, Bic, Bis, Ornot, Xor, Eqv, Mskbl, Extbl, Insbl, Mskwl, Extwl, Inswl, Mskll, Extll, Insll, Zap, Zapnot, Mskql, Srl, Extql, Sll, Insql, Sra, Mskwh, Inswh, Extwh, Msklh, Inslh, Extlh, Mskqh, Insqh, Extqh, Mull, Mulq, Umulh, Sextb, Sextw}
use Rattle.word_ops.specs.declared.operators.WordOp.TheVariants.{Operate, Neg, Not, Selectb, Storeb, Lda, Ldah}
use Rattle.word_ops.specs.Words.{IsWord}
use Rattle.word_ops.specs.Values.{addq, subq, mulq, s4addq, s8addq, s4subq, s8subq, umulh, neg, sextb, sextw, lda, ldah, flag, cmpeq, cmplt, cmple, cmpult, cmpule, cmpbge, and, bic, ornot, xor, eqv, not, ext_low, ext_high, ins_high, msk_high, selectb}
use Rattle.word_ops.specs.Operators.{operate_value, value_at, value_of}
use Rattle.word_ops.proofs.WordBits.{word_of-lt}
use Rattle.word_ops.proofs.OperatorBits.{sign_extended-lt, sll-lt, srl-lt, sra-lt, zap-lt, zapnot-lt, storeb-lt}
use Rattle.word_ops.proofs.StoredByte.{bis-lt, msk_low-lt, ins_low-lt}

addq-lt : (a b : ℕ) → addq a b < 2 ^ 64
unfolding addq
addq-lt a b = omega arith

subq-lt : (a b : ℕ) → subq a b < 2 ^ 64
unfolding subq
subq-lt a b = omega arith

mulq-lt : (a b : ℕ) → mulq a b < 2 ^ 64
unfolding mulq
mulq-lt a b = omega arith

s4addq-lt : (a b : ℕ) → s4addq a b < 2 ^ 64
unfolding s4addq
s4addq-lt a b = omega arith

s8addq-lt : (a b : ℕ) → s8addq a b < 2 ^ 64
unfolding s8addq
s8addq-lt a b = omega arith

s4subq-lt : (a b : ℕ) → s4subq a b < 2 ^ 64
unfolding s4subq
s4subq-lt a b = omega arith

s8subq-lt : (a b : ℕ) → s8subq a b < 2 ^ 64
unfolding s8subq
s8subq-lt a b = omega arith

pub lda-lt : (a b : ℕ) → lda a b < 2 ^ 64
unfolding lda
lda-lt a b = omega arith

ldah-lt : (a b : ℕ) → ldah a b < 2 ^ 64
unfolding ldah
ldah-lt a b = omega arith

selectb-lt : (a b : ℕ) → selectb a b < 2 ^ 64
unfolding selectb
selectb-lt a b = omega arith

neg-lt : (a : ℕ) → neg a < 2 ^ 64
unfolding neg
neg-lt a = omega arith

not-lt : (a : ℕ) → not a < 2 ^ 64
unfolding not
not-lt a = omega arith

sextb-lt : (a : ℕ) → sextb a < 2 ^ 64
unfolding sextb
sextb-lt a = sign_extended-lt 8 a (omega arith)

sextw-lt : (a : ℕ) → sextw a < 2 ^ 64
unfolding sextw
sextw-lt a = sign_extended-lt 16 a (omega arith)

-- a product of two numbers below n is below n * n
umulh-lt : (a b : ℕ) → a < 2 ^ 64 → b < 2 ^ 64 → umulh a b < 2 ^ 64
unfolding umulh
umulh-lt a b f g = omega (arith, product)
  where
    product : a * b ≤ (2 ^ 64 - 1) * (2 ^ 64 - 1)
    product = mul-le-mul {n₂ = 2 ^ 64 - 1} {m₂ = 2 ^ 64 - 1} (omega arith) (omega arith)

flag-lt : (t : Bool) → flag t < 2 ^ 64
flag-lt true = omega arith
flag-lt false = omega arith

cmpeq-lt : (a b : ℕ) → cmpeq a b < 2 ^ 64
unfolding cmpeq
cmpeq-lt a b = flag-lt _

cmplt-lt : (a b : ℕ) → cmplt a b < 2 ^ 64
unfolding cmplt
cmplt-lt a b = flag-lt _

cmple-lt : (a b : ℕ) → cmple a b < 2 ^ 64
unfolding cmple
cmple-lt a b = flag-lt _

cmpult-lt : (a b : ℕ) → cmpult a b < 2 ^ 64
unfolding cmpult
cmpult-lt a b = flag-lt _

cmpule-lt : (a b : ℕ) → cmpule a b < 2 ^ 64
unfolding cmpule
cmpule-lt a b = flag-lt _

cmpbge-lt : (a b : ℕ) → cmpbge a b < 2 ^ 64
unfolding cmpbge
cmpbge-lt a b = word_of-lt _

and-lt : (a b : ℕ) → a < 2 ^ 64 → and a b < 2 ^ 64
unfolding and
and-lt a b f = omega (arith, and_le_l a b)

bic-lt : (a b : ℕ) → a < 2 ^ 64 → bic a b < 2 ^ 64
unfolding bic
bic-lt a b f = omega (arith, and_le_l a (2 ^ 64 - 1 - b))

ornot-lt : (a b : ℕ) → a < 2 ^ 64 → b < 2 ^ 64 → ornot a b < 2 ^ 64
unfolding ornot
ornot-lt a b f g = or_lt 64 a (2 ^ 64 - 1 - b) f (omega arith)

xor-lt : (a b : ℕ) → a < 2 ^ 64 → b < 2 ^ 64 → xor a b < 2 ^ 64
unfolding xor
xor-lt = xor_lt 64

eqv-lt : (a b : ℕ) → a < 2 ^ 64 → b < 2 ^ 64 → eqv a b < 2 ^ 64
unfolding eqv
eqv-lt a b f g = xor_lt 64 a (2 ^ 64 - 1 - b) f (omega arith)

pub ext_low-lt : (w a b : ℕ) → a < 2 ^ 64 → ext_low w a b < 2 ^ 64
unfolding ext_low
ext_low-lt w a b f = omega (arith, shr_le a (8 * (b % 8)), mod-le (a / 2 ^ (8 * (b % 8))) (2 ^ (8 * w)))

ext_high-lt : (w a b : ℕ) → ext_high w a b < 2 ^ 64
unfolding ext_high
ext_high-lt w a b = within (a * 2 ^ ((64 - 8 * (b % 8)) % 64))
  where
    within : (n : ℕ) → n % 2 ^ 64 % 2 ^ (8 * w) < 2 ^ 64
    within n = omega (arith, mod-le (n % 2 ^ 64) (2 ^ (8 * w)), mod_below n (2 ^ 64) (pow_pos 64))

ins_high-lt : (w a b : ℕ) → ins_high w a b < 2 ^ 64
unfolding ins_high
ins_high-lt w a b = zapnot-lt _ _

msk_high-lt : (w a b : ℕ) → msk_high w a b < 2 ^ 64
unfolding msk_high
msk_high-lt w a b = zap-lt a _

operate_value-lt : (operate : OperateOf) (a b : ℕ) → a < 2 ^ 64 → b < 2 ^ 64 → operate_value operate a b < 2 ^ 64
unfolding operate_value
operate_value-lt Addl a b f g = sign_extended-lt 32 (addq a b) (omega arith)
operate_value-lt S4addl a b f g = sign_extended-lt 32 (s4addq a b) (omega arith)
operate_value-lt Subl a b f g = sign_extended-lt 32 (subq a b) (omega arith)
operate_value-lt S4subl a b f g = sign_extended-lt 32 (s4subq a b) (omega arith)
operate_value-lt Cmpbge a b f g = cmpbge-lt a b
operate_value-lt S8addl a b f g = sign_extended-lt 32 (s8addq a b) (omega arith)
operate_value-lt S8subl a b f g = sign_extended-lt 32 (s8subq a b) (omega arith)
operate_value-lt Cmpult a b f g = cmpult-lt a b
operate_value-lt Addq a b f g = addq-lt a b
operate_value-lt S4addq a b f g = s4addq-lt a b
operate_value-lt Subq a b f g = subq-lt a b
operate_value-lt S4subq a b f g = s4subq-lt a b
operate_value-lt Cmpeq a b f g = cmpeq-lt a b
operate_value-lt S8addq a b f g = s8addq-lt a b
operate_value-lt S8subq a b f g = s8subq-lt a b
operate_value-lt Cmpule a b f g = cmpule-lt a b
operate_value-lt Cmplt a b f g = cmplt-lt a b
operate_value-lt Cmple a b f g = cmple-lt a b
operate_value-lt And a b f g = and-lt a b f
operate_value-lt Bic a b f g = bic-lt a b f
operate_value-lt Bis a b f g = bis-lt a b f g
operate_value-lt Ornot a b f g = ornot-lt a b f g
operate_value-lt Xor a b f g = xor-lt a b f g
operate_value-lt Eqv a b f g = eqv-lt a b f g
operate_value-lt Mskbl a b f g = msk_low-lt 1 a b
operate_value-lt Extbl a b f g = ext_low-lt 1 a b f
operate_value-lt Insbl a b f g = ins_low-lt 1 a b
operate_value-lt Mskwl a b f g = msk_low-lt 2 a b
operate_value-lt Extwl a b f g = ext_low-lt 2 a b f
operate_value-lt Inswl a b f g = ins_low-lt 2 a b
operate_value-lt Mskll a b f g = msk_low-lt 4 a b
operate_value-lt Extll a b f g = ext_low-lt 4 a b f
operate_value-lt Insll a b f g = ins_low-lt 4 a b
operate_value-lt Zap a b f g = zap-lt a b
operate_value-lt Zapnot a b f g = zapnot-lt a b
operate_value-lt Mskql a b f g = msk_low-lt 8 a b
operate_value-lt Srl a b f g = srl-lt a b f
operate_value-lt Extql a b f g = ext_low-lt 8 a b f
operate_value-lt Sll a b f g = sll-lt a b
operate_value-lt Insql a b f g = ins_low-lt 8 a b
operate_value-lt Sra a b f g = sra-lt a b
operate_value-lt Mskwh a b f g = msk_high-lt 2 a b
operate_value-lt Inswh a b f g = ins_high-lt 2 a b
operate_value-lt Extwh a b f g = ext_high-lt 2 a b
operate_value-lt Msklh a b f g = msk_high-lt 4 a b
operate_value-lt Inslh a b f g = ins_high-lt 4 a b
operate_value-lt Extlh a b f g = ext_high-lt 4 a b
operate_value-lt Mskqh a b f g = msk_high-lt 8 a b
operate_value-lt Insqh a b f g = ins_high-lt 8 a b
operate_value-lt Extqh a b f g = ext_high-lt 8 a b
operate_value-lt Mull a b f g = sign_extended-lt 32 (mulq a b) (omega arith)
operate_value-lt Mulq a b f g = mulq-lt a b
operate_value-lt Umulh a b f g = umulh-lt a b f g
operate_value-lt Sextb a b f g = sextb-lt a
operate_value-lt Sextw a b f g = sextw-lt a

pub value_at-lt : (op : WordOp) (a b c : ℕ) → a < 2 ^ 64 → b < 2 ^ 64 → c < 2 ^ 64 → value_at op a b c < 2 ^ 64
unfolding value_at
value_at-lt (Operate operate) a b c f g h = operate_value-lt operate a b f g
value_at-lt Neg a b c f g h = neg-lt a
value_at-lt Not a b c f g h = not-lt a
value_at-lt Selectb a b c f g h = selectb-lt a b
value_at-lt Storeb a b c f g h = storeb-lt a b c
value_at-lt Lda a b c f g h = lda-lt a b
value_at-lt Ldah a b c f g h = ldah-lt a b

-- an operand is a word, also where there is none, since then it reads as 0
pub operand-lt : (vs : List ℕ) (at : ℕ) → All IsWord vs → slice_index vs at < 2 ^ 64
operand-lt vs at h = ⊎_elim (λ l. h at 0 l) (λ l. subst (λ n. n < 2 ^ 64) (sym (get_or_past vs at 0 l)) (omega arith)) (cases_lt at (length vs))

pub value_of-lt : (op : WordOp) (vs : List ℕ) → All IsWord vs → IsWord (value_of op vs)
value_of-lt op vs h = value_at-lt op _ _ _ (operand-lt vs 0 h) (operand-lt vs 1 h) (operand-lt vs 2 h)
