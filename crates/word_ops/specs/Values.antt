-- What each operator on words gives, for operands below 2 ^ 64. From the Alpha Architecture Handbook, version 4, the
-- descriptions of the integer instructions; the byte operations on high bytes shift by (64 - 8o) mod 64 at every
-- offset o, which is this project's reading, and `selectb` and `storeb` are Denali's (PLDI 2002).
use Rattle.std.specs.Prelude.{ℕ, ◌+◌, ◌-◌, ◌*◌, ◌/◌, ◌%◌, ◌^◌, min, Bool, if◌then◌else◌, nat_lt, nat_le, ◌&&◌, ◌==◌, int_lt, int_le, bit_and, bit_or, bit_xor}
use Rattle.std.specs.Int.{bit_at, cast_signed, w64}
use Rattle.word_ops.specs.Bits.{word_of}

-- ---- sums, differences and products, modulo 2 ^ 64; a difference adds the negative of b

unfoldable pub addq : ℕ → ℕ → ℕ
addq a b = (a + b) % 2 ^ 64

unfoldable pub subq : ℕ → ℕ → ℕ
subq a b = (a + (2 ^ 64 - b)) % 2 ^ 64

unfoldable pub mulq : ℕ → ℕ → ℕ
mulq a b = (a * b) % 2 ^ 64

unfoldable pub neg : ℕ → ℕ
neg a = (2 ^ 64 - a) % 2 ^ 64

unfoldable pub s4addq : ℕ → ℕ → ℕ
s4addq a b = (4 * a + b) % 2 ^ 64

unfoldable pub s8addq : ℕ → ℕ → ℕ
s8addq a b = (8 * a + b) % 2 ^ 64

unfoldable pub s4subq : ℕ → ℕ → ℕ
s4subq a b = (4 * a + (2 ^ 64 - b)) % 2 ^ 64

unfoldable pub s8subq : ℕ → ℕ → ℕ
s8subq a b = (8 * a + (2 ^ 64 - b)) % 2 ^ 64

-- the low k bits of a, sign-extended: where bit k - 1 is 1, the bits from k to 63 are 1 too
unfoldable pub sign_extended : ℕ → ℕ → ℕ
sign_extended k a = if bit_at a (k - 1) == 0 then a % 2 ^ k else 2 ^ 64 - 2 ^ k + a % 2 ^ k

-- the high 64 bits of the unsigned product
unfoldable pub umulh : ℕ → ℕ → ℕ
umulh a b = a * b / 2 ^ 64

-- ---- comparisons

-- 1 where the test holds, else 0
abbrev pub flag : Bool → ℕ
flag t = if t then 1 else 0

unfoldable pub cmpeq : ℕ → ℕ → ℕ
cmpeq a b = flag (a == b)

unfoldable pub cmpult : ℕ → ℕ → ℕ
cmpult a b = flag (nat_lt a b)

unfoldable pub cmpule : ℕ → ℕ → ℕ
cmpule a b = flag (nat_le a b)

-- as signed words
unfoldable pub cmple : ℕ → ℕ → ℕ
cmple a b = flag (int_le (cast_signed w64 a) (cast_signed w64 b))

unfoldable pub cmplt : ℕ → ℕ → ℕ
cmplt a b = flag (int_lt (cast_signed w64 a) (cast_signed w64 b))

-- byte i of a
abbrev pub byte : ℕ → ℕ → ℕ
byte a i = a / 2 ^ (8 * i) % 2 ^ 8

-- bit i, for i below 8, says that byte i of a is at least byte i of b
unfoldable pub cmpbge : ℕ → ℕ → ℕ
cmpbge a b = word_of (λ i. flag (nat_lt i 8 && nat_le (byte b i) (byte a i)))

-- ---- bit by bit

-- every bit changed
abbrev pub inverted : ℕ → ℕ
inverted a = 2 ^ 64 - 1 - a

unfoldable pub and : ℕ → ℕ → ℕ
and a b = bit_and a b

unfoldable pub bic : ℕ → ℕ → ℕ
bic a b = bit_and a (inverted b)

unfoldable pub bis : ℕ → ℕ → ℕ
bis a b = bit_or a b

unfoldable pub ornot : ℕ → ℕ → ℕ
ornot a b = bit_or a (inverted b)

unfoldable pub xor : ℕ → ℕ → ℕ
xor a b = bit_xor a b

unfoldable pub eqv : ℕ → ℕ → ℕ
eqv a b = bit_xor a (inverted b)

unfoldable pub not : ℕ → ℕ
not a = inverted a

-- ---- shifts, by the low six bits of b

unfoldable pub sll : ℕ → ℕ → ℕ
sll a b = a * 2 ^ (b % 64) % 2 ^ 64

unfoldable pub srl : ℕ → ℕ → ℕ
srl a b = a / 2 ^ (b % 64)

-- bit i is bit i + n of a, where n is the distance, and past bit 63 it is bit 63
unfoldable pub sra : ℕ → ℕ → ℕ
sra a b = word_of (λ i. bit_at a (min (i + b % 64) 63))

-- ---- bytes

-- byte i is 255 where bit i of the mask is 1, else 0
unfoldable pub byte_mask : ℕ → ℕ
byte_mask mask = word_of (λ i. bit_at mask (i / 8))

-- byte i kept where bit i of the mask is 1, else 0
unfoldable pub zapnot : ℕ → ℕ → ℕ
zapnot a mask = bit_and a (byte_mask mask)

-- byte i cleared where bit i of the mask is 1
unfoldable pub zap : ℕ → ℕ → ℕ
zap a mask = bit_and a (inverted (byte_mask mask))

unfoldable pub sextb : ℕ → ℕ
sextb a = sign_extended 8 a

unfoldable pub sextw : ℕ → ℕ
sextw a = sign_extended 16 a

-- for a width of w bytes: w ones shifted left by the byte offset, which is b's low three bits
abbrev pub width_mask : ℕ → ℕ → ℕ
width_mask w b = (2 ^ w - 1) * 2 ^ (b % 8)

-- (64 - 8o) mod 64 bits, where o is the byte offset
abbrev pub high_shift : ℕ → ℕ
high_shift b = (64 - 8 * (b % 8)) % 64

-- ---- the byte operators of width w: extract, insert and mask, on the low and on the high bytes

unfoldable pub ext_low : ℕ → ℕ → ℕ → ℕ
ext_low w a b = a / 2 ^ (8 * (b % 8)) % 2 ^ (8 * w)

unfoldable pub ext_high : ℕ → ℕ → ℕ → ℕ
ext_high w a b = a * 2 ^ high_shift b % 2 ^ 64 % 2 ^ (8 * w)

unfoldable pub ins_low : ℕ → ℕ → ℕ → ℕ
ins_low w a b = zapnot (a * 2 ^ (8 * (b % 8)) % 2 ^ 64) (width_mask w b)

unfoldable pub ins_high : ℕ → ℕ → ℕ → ℕ
ins_high w a b = zapnot (a / 2 ^ high_shift b) (width_mask w b / 2 ^ 8)

unfoldable pub msk_low : ℕ → ℕ → ℕ → ℕ
msk_low w a b = zap a (width_mask w b)

unfoldable pub msk_high : ℕ → ℕ → ℕ → ℕ
msk_high w a b = zap a (width_mask w b / 2 ^ 8)

-- ---- operators that no operate has: of Denali, and of a base with a displacement

-- byte y mod 8 of x
unfoldable pub selectb : ℕ → ℕ → ℕ
selectb x y = byte x (y % 8)

-- x with its byte y mod 8 replaced by the low byte of z
unfoldable pub storeb : ℕ → ℕ → ℕ → ℕ
storeb x y z = word_of (λ i. if i / 8 == y % 8 then bit_at z (i % 8) else bit_at x i)

-- x + e and x + 65536 e, where e is the low 16 bits of k, sign-extended
unfoldable pub lda : ℕ → ℕ → ℕ
lda x k = (x + sign_extended 16 k) % 2 ^ 64

unfoldable pub ldah : ℕ → ℕ → ℕ
ldah x k = (x + 65536 * sign_extended 16 k) % 2 ^ 64
