-- The computed rules' conditions on their constants, and the constant that each gives. The choice is this project's, by
-- what one instruction of the Alpha Architecture Handbook, version 4, can do with a constant.
use Rattle.std.specs.Prelude.{◌≡◌, ◌≢◌, ℕ, ◌+◌, ◌-◌, ◌*◌, ◌%◌, ◌^◌, ◌<◌, ◌≤◌, ◌⊎◌, List, length, slice_index, All}
use Rattle.std.specs.Int.{bit_at}
use Rattle.word_ops.specs.Words.{IsWord}
use Rattle.word_ops.specs.Values.{byte, inverted, subq, sll, sra, sign_extended, msk_low}
use Rattle.axiom_base.specs.declared.kinds.Calc.{Calc}
use Rattle.axiom_base.specs.declared.kinds.Given.{Given}
use Rattle.axiom_base.specs.declared.kinds.Calc.TheVariants.{C1, C2, C3, C4, C5, C6, C7, C8, C9, C10, C11, C12, C13, C14, C15, C16, C17, C18, C19, C20, C21, C22, C23, C24, C25, C26, C27, C28, C29, C30, C31, C32, C33, C34, C35, C36, C37}

-- a displacement of 16 bits, extended by its sign
abbrev pub IsDisplacement : ℕ → Type 0
IsDisplacement c = (c < 2 ^ 15) ⊎ (2 ^ 64 - 2 ^ 15 ≤ c)

-- as a difference modulo 2 ^ 64: addresses that differ by it are never in one place of eight bytes
abbrev pub IsFar : ℕ → Type 0
IsFar c = (8 ≤ c) × (c ≤ 2 ^ 64 - 8)

-- each byte of c is 255 where that bit of e is 1, else 0
abbrev pub IsByteMask : ℕ → ℕ → Type 0
IsByteMask c e = (e < 2 ^ 8) × ((i : ℕ) → i < 8 → byte c i ≡ 255 * bit_at e i)

-- 65536 times a displacement, modulo 2 ^ 64
abbrev pub IsHigh : ℕ → Type 0
IsHigh c = (h : ℕ) × IsWord h × IsDisplacement h × (c ≡ 65536 * h % 2 ^ 64)

-- c is no displacement, and its low 16 bits aren't all 0
abbrev pub HasTwoParts : ℕ → Type 0
HasTwoParts c = (¬ IsDisplacement c) × (c % 2 ^ 16 ≢ 0)

-- c less its low 16 bits, which are extended by their sign
abbrev pub high_part : ℕ → ℕ
high_part c = subq c (sign_extended 16 c)

-- a mask of bytes that neither `lda` nor `ldah` makes
abbrev pub IsPlainMask : ℕ → ℕ → Type 0
IsPlainMask c e = IsByteMask c e × (¬ IsDisplacement c) × (¬ IsHigh c)

-- c is a left side of C3, C4, C5 or C16
abbrev pub IsMade : ℕ → Type 0
IsMade c =
    (IsDisplacement c × (c ≢ 0))
    ⊎ (IsHigh c × (c ≢ 0))
    ⊎ (HasTwoParts c × IsHigh (high_part c))
    ⊎ ((e : ℕ) × IsPlainMask c e)

-- e is odd and at least 3
abbrev pub IsOddFactor : ℕ → Type 0
IsOddFactor e = (e % 2 ≡ 1) × (3 ≤ e)

-- n is an odd number, at least 3, times a power of two, at least 2
abbrev pub IsOddTimesPower : ℕ → ℕ → ℕ → Type 0
IsOddTimesPower n e f = (n ≡ e * 2 ^ f) × IsOddFactor e × (1 ≤ f)

-- as signed words, c is e times 2 ^ f, and e is odd
abbrev pub IsSignedOddTimesPower : ℕ → ℕ → ℕ → Type 0
IsSignedOddTimesPower c e f = (f < 64) × (c ≡ sll e f) × (e ≡ sra c f) × (e % 2 ≡ 1)

-- a shift by c bits is one by e bytes
abbrev pub IsByteDistance : ℕ → ℕ → Type 0
IsByteDistance c e = (c ≡ 8 * e) × (e ≤ 7)

-- how many constants the rule has
abbrev pub constants_of : Calc → ℕ
constants_of C12 = 2
constants_of C18 = 2
constants_of C19 = 2
constants_of C20 = 2
constants_of C26 = 2
constants_of C27 = 2
constants_of C28 = 2
constants_of C29 = 2
constants_of C30 = 2
constants_of C31 = 2
constants_of _ = 1

-- how many constants the rule gives
abbrev pub given_of : Calc → ℕ
given_of C21 = 2
given_of C32 = 2
given_of C33 = 2
given_of C35 = 2
given_of _ = 1

-- what the rule asks of its constants c and d, and of the constants e and f that it gives; a rule that has no d or no f
-- asks nothing of it
abbrev pub Condition : Calc → ℕ → ℕ → ℕ → ℕ → Type 0
Condition C1 c d e f = IsDisplacement c × (c ≢ 0) × (e ≡ c)
Condition C2 c d e f = (c ≡ 65536 * e % 2 ^ 64) × IsDisplacement e × (e ≢ 0)
Condition C3 c d e f = IsDisplacement c × (c ≢ 0) × (e ≡ c)
Condition C4 c d e f = (c ≡ 65536 * e % 2 ^ 64) × IsDisplacement e × (e ≢ 0)
Condition C5 c d e f =
    (¬ IsDisplacement c)
    × (c % 2 ^ 16 ≢ 0)
    × (e ≡ subq c (sign_extended 16 c))
    × ((h : ℕ) × IsWord h × IsDisplacement h × (e ≡ 65536 * h % 2 ^ 64))
Condition C6 c d e f = (c ≡ 2 ^ e) × (1 ≤ e) × (e ≤ 63)
Condition C7 c d e f = (c + 1 ≡ 2 ^ e) × (2 ≤ e) × (e ≤ 63)
Condition C8 c d e f = (c ≡ 2 ^ e + 1) × (1 ≤ e) × (e ≤ 63)
Condition C9 c d e f = IsByteMask c e
Condition C10 c d e f = IsFar c × (e ≡ c)
Condition C11 c d e f = IsFar c × (e ≡ c)
Condition C12 c d e f = IsFar (subq d c) × (e ≡ d)
Condition C13 c d e f = (e ≡ inverted c) × (e ≤ 255)
Condition C14 c d e f = (e ≡ inverted c) × (e ≤ 255)
Condition C15 c d e f = (e ≡ inverted c) × (e ≤ 255)
Condition C16 c d e f = IsPlainMask c e
Condition C17 c d e f = HasTwoParts c × (high_part c ≡ 65536 * e % 2 ^ 64) × IsDisplacement e
Condition C18 c d e f = IsByteDistance c e × (d ≡ 2 ^ 8 - 1)
Condition C19 c d e f = IsByteDistance c e × (d ≡ 2 ^ 16 - 1)
Condition C20 c d e f = IsByteDistance c e × (d ≡ 2 ^ 32 - 1)
Condition C21 c d e f = IsOddTimesPower c e f
Condition C22 c d e f = (c ≡ 3 * e) × IsOddFactor e
Condition C23 c d e f = (c ≡ 5 * e) × IsOddFactor e
Condition C24 c d e f = (c ≡ 7 * e) × IsOddFactor e
Condition C25 c d e f = (c ≡ 9 * e) × IsOddFactor e
Condition C26 c d e f = (d < 8) × (e ≡ msk_low 1 c d)
Condition C27 c d e f = (d < 8) × (e ≡ msk_low 2 c d)
Condition C28 c d e f = (d < 8) × (e ≡ msk_low 4 c d)
Condition C29 c d e f = IsByteDistance c e × (d ≡ 1)
Condition C30 c d e f = IsByteDistance c e × (d ≡ 3)
Condition C31 c d e f = IsByteDistance c e × (d ≡ 15)
Condition C32 c d e f = (c % 2 ≡ 1) × IsOddTimesPower (c - 1) e f
Condition C33 c d e f = (c % 2 ≡ 1) × IsOddTimesPower (c + 1) e f
Condition C34 c d e f = (2 ^ 63 < c) × (c < 2 ^ 64 - 1) × (e ≡ 2 ^ 64 - c)
Condition C35 c d e f = (c % 2 ≡ 0) × (¬ IsMade c) × IsSignedOddTimesPower c e f
Condition C36 c d e f = HasTwoParts c × (e ≡ high_part c)
Condition C37 c d e f = (2 ^ 31 - 2 ^ 15 ≤ c) × (c < 2 ^ 32) × (e ≡ c + (2 ^ 64 - 2 ^ 32))

-- the constants are as many words as the rule has and meet its condition, and what it gives are words; a rule that
-- gives one constant has 0 for the other
pub record IsCalc (kind : Calc) (cs : List ℕ) (given : Given) : Type 0 where
  pub count : length cs ≡ constants_of kind
  pub words : All IsWord cs
  pub first : IsWord given.e
  pub second : IsWord given.f
  pub alone : given_of kind ≡ 1 → given.f ≡ 0
  pub condition : Condition kind (slice_index cs 0) (slice_index cs 1) given.e given.f
