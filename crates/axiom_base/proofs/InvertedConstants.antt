-- The operators that take their second operand inverted, at an inverted constant.
use Rattle.std.proofs.Common.{◌≡◌, ℕ, ap, arith, bit_and, bit_or, bit_xor}
use Rattle.word_ops.specs.Words.{IsWord}
use Rattle.word_ops.specs.Values.{and, bis, xor, bic, ornot, eqv, inverted}

inverted_twice : (c e : ℕ) → IsWord c → e ≡ inverted c → c ≡ inverted e
inverted_twice c e f h = omega (arith, f, h)

pub and_is_bic : (x c e : ℕ) → IsWord c → e ≡ inverted c → and x c ≡ bic x e
unfolding and bic
and_is_bic x c e f h = ap (bit_and x) (inverted_twice c e f h)

pub bis_is_ornot : (x c e : ℕ) → IsWord c → e ≡ inverted c → bis x c ≡ ornot x e
unfolding bis ornot
bis_is_ornot x c e f h = ap (bit_or x) (inverted_twice c e f h)

pub xor_is_eqv : (x c e : ℕ) → IsWord c → e ≡ inverted c → xor x c ≡ eqv x e
unfolding xor eqv
xor_is_eqv x c e f h = ap (bit_xor x) (inverted_twice c e f h)
