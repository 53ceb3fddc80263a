-- Products by constants as sums, and sums with a word in two parts, modulo 2 ^ 64.
use Rattle.std.proofs.Common.{◌≡◌, ℕ, ◌-◌, ◌*◌, ◌/◌, ◌^◌, ◌∙◌, refl, sym, ap, arith, bit_and}
use Rattle.std.proofs.lemmas.Bool.Decides.{nat_tests}
use Rattle.std.proofs.lemmas.Nat.{and_mask}
use Rattle.std.proofs.lemmas.Nat.Bits.{bit_at-lt, and_high_mask}
use Rattle.word_ops.specs.Words.{IsWord}
use Rattle.word_ops.specs.Values.{addq, mulq, s4addq, s8addq, s4subq, sll, srl, and, zapnot, byte_mask, sextw, sign_extended}
use Rattle.word_ops.specs.Bits.{bits_below, word_of}

-- ---- products

pub by_6 : (x : ℕ) → mulq x 6 ≡ addq (s4addq x x) x
unfolding mulq addq s4addq
by_6 x = omega arith

pub by_10 : (x : ℕ) → mulq x 10 ≡ addq (s8addq x x) x
unfolding mulq addq s8addq
by_10 x = omega arith

pub by_11 : (x : ℕ) → IsWord x → mulq x 11 ≡ s4subq (s4subq x x) x
unfolding mulq s4subq
by_11 x h = omega arith

pub by_25 : (x : ℕ) → IsWord x → mulq x 25 ≡ s8addq (s4subq x x) x
unfolding mulq s8addq s4subq
by_25 x h = omega arith

pub by_12 : (x : ℕ) → IsWord x → mulq x 12 ≡ s4addq (s4subq x x) 0
unfolding mulq s4addq s4subq
by_12 x h = omega arith

pub by_20 : (x : ℕ) → mulq x 20 ≡ s4addq (s4addq x x) 0
unfolding mulq s4addq
by_20 x = omega arith

pub by_24 : (x : ℕ) → IsWord x → mulq x 24 ≡ s8addq (s4subq x x) 0
unfolding mulq s8addq s4subq
by_24 x h = omega arith

pub by_36 : (x : ℕ) → mulq x 36 ≡ s4addq (s8addq x x) 0
unfolding mulq s4addq s8addq
by_36 x = omega arith

pub by_40 : (x : ℕ) → mulq x 40 ≡ s8addq (s4addq x x) 0
unfolding mulq s4addq s8addq
by_40 x = omega arith

pub by_100 : (x : ℕ) → IsWord x → mulq x 100 ≡ s4addq (s8addq (s4subq x x) x) 0
unfolding mulq s4addq s8addq s4subq
by_100 x h = omega arith

pub by_four_ones : (x : ℕ) → mulq x 16843009 ≡ addq (addq x (sll x 8)) (sll (addq x (sll x 8)) 16)
unfolding mulq addq sll
by_four_ones x = omega arith

abbrev four : ℕ → ℕ
four x = addq (addq x (sll x 8)) (sll (addq x (sll x 8)) 16)

pub by_eight_ones : (x : ℕ) → mulq x 72340172838076673 ≡ addq (four x) (sll (four x) 32)
unfolding mulq addq sll
by_eight_ones x = omega arith

-- ---- sums

pub by_eighth : (x y : ℕ) → addq x y ≡ s8addq (srl y 3) (addq x (and y 7))
unfolding addq s8addq srl and
by_eighth x y = let m = and_mask y 3 in omega (arith, m)

high_mask : byte_mask 252 ≡ 2 ^ 64 - 2 ^ 16
unfolding byte_mask word_of bits_below
high_mask = refl

high_part : (z : ℕ) → IsWord z → zapnot z 252 ≡ z / 65536 * 65536
unfolding zapnot
high_part z h = ap (λ m. bit_and z m) high_mask ∙ and_high_mask 64 16 (omega arith) z h

s4addq-lt : (a b : ℕ) → IsWord (s4addq a b)
unfolding s4addq
s4addq-lt a b = omega arith

high_and_low : (x y : ℕ) → IsWord y → addq x y ≡ addq (addq x (s4addq 8192 y / 65536 * 65536)) (sextw y)
unfolding addq s4addq sextw sign_extended
high_and_low x y h = grind (arith, nat_tests, bit_at-lt y 15)

pub by_halves : (x y : ℕ) → IsWord y → addq x y ≡ addq (addq x (zapnot (s4addq 8192 y) 252)) (sextw y)
by_halves x y h =
    high_and_low x y h ∙ ap (λ z. addq (addq x z) (sextw y)) (sym (high_part (s4addq 8192 y) (s4addq-lt 8192 y)))
